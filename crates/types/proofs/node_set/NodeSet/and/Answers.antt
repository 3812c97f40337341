use Rattle.types.proofs.NodeBits.{and_has}
use Rattle.types.proofs.node_set.NodeSet.and.Goals as goal

pub returns : goal.returns
returns c v = and_has c.args.self.0 c.args.other.0 v
