use Rattle.std.proofs.Common.{◌+◌, ◌-◌, ◌∙◌, ap, arith}
use Rattle.std.proofs.lemmas.List.{get_or-append_right, get_or-drop}
use Rattle.types.proofs.Arrays.{all_alike}
use Rattle.repairs.specs.Entries.{meaning}
use Rattle.repairs.specs.declared.repair.Entry.TheVariants.{Unused}
use Rattle.render.proofs.link_repair.row_at.Goals as goal

pub returns-clause-behind : goal.returns-clause-behind
returns-clause-behind c =
    let n = c.nodes.result in
    λ d l. ap meaning (get_or-append_right _ _ n d Unused (omega (arith, c.precompute_row.auto.row)) (omega (arith, c.nodes.ensures.value)) ∙ (get_or-drop n _ (d - n) Unused ∙ all_alike Unused 64 (n + (d - n))))
