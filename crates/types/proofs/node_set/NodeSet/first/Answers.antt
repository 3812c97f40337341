use Rattle.std.proofs.Common.{arith, rules}
use Rattle.types.proofs.NodeBits.{lowest_bit}
use Rattle.types.proofs.node_set.NodeSet.first.Goals as goal

pub returns : goal.returns
returns c = lowest_bit c.args.self.0 (omega (arith, c.if-self-eq0.false)) (search rules)
