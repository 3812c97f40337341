use Rattle.std.proofs.Common.{rules}
use Rattle.types.proofs.NodeBits.{minus_has}
use Rattle.types.proofs.node_set.NodeSet.minus.Goals as goal

pub returns : goal.returns
returns c v = minus_has c.args.self.0 c.args.other.0 v (search rules) (search rules)
