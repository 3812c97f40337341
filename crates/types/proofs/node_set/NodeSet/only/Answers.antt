use Rattle.std.proofs.Common.{rules}
use Rattle.types.proofs.NodeBits.{only_has, only_none}
use Rattle.types.proofs.node_set.NodeSet.only.Goals as goal

pub returns-then-not-is_below : goal.returns-then-not-is_below
returns-then-not-is_below c v = only_none c.args.u v (search rules)

pub returns : goal.returns
returns c v = rw c.number.ensures (only_has c.args.u v (search rules))
