use Rattle.types.proofs.NodeBits.{without_lowest}
use Rattle.types.proofs.node_set.NodeSet.take_first.Goals as goal

pub returns : goal.returns
returns c = (c.in_ok-u.ensures, λ v. without_lowest c.args.self.now.0 c.in_ok-u.u v c.in_ok-u.ensures)
