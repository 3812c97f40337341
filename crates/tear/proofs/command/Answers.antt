use Rattle.std.proofs.Common.{rules, arith, ◌≡◌, ap, codes, slice_index}
use Rattle.cli.proofs.Required.{requires_first}
use Rattle.tear.proofs.command.Goals as goal

pub returns : goal.returns
returns c =
    let first = c.help-links.result in
    let second = c.help-script.result in
    let id : second.id.now ≡ codes "SCRIPT" = search rules in
    let letter : slice_index second.id.now 0 ≡ 83 = ap (λ t. slice_index t 0) id in
    requires_first c.command.result c.in_ok-arg.field-0 c.arg-2.result first second _ c.in_ok-arg.ensures c.arg-2.ensures c.command.ensures.bare
    (search rules) (search rules) (search rules) (search rules) (omega arith) (omega arith)
    (search rules) (search rules) (omega arith) (omega arith) (λ e. absurd (omega arith))
