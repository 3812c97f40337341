use Rattle.std.proofs.Common.{◌-◌, ◌∙◌, ap, arith, rules}
use Rattle.std.proofs.lemmas.Nat.{one_shl}
use Rattle.types.specs.NodeSets.{has}
use Rattle.types.proofs.NodeBits.{below_has, all_has}
use Rattle.types.proofs.node_set.NodeSet.below.Goals as goal

pub returns-then-n-ge64 : goal.returns-then-n-ge64
returns-then-n-ge64 c v = all_has c.args.n v (search rules)

pub returns : goal.returns
returns c v =
    ap (λ x. has (record { 0 = x - 1 }) v) (one_shl c.args.n 64 c.if-n-ge64.false) ∙
    below_has c.args.n v (omega (arith, c.if-n-ge64.false))
