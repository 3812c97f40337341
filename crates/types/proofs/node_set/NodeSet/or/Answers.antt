use Rattle.types.proofs.NodeBits.{or_has}
use Rattle.types.proofs.node_set.NodeSet.or.Goals as goal

pub returns : goal.returns
returns c v = or_has c.args.self.0 c.args.other.0 v
