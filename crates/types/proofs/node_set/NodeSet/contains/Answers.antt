use Rattle.std.proofs.Common.{sym, ◌∙◌, rules}
use Rattle.types.proofs.NodeBits.{none_above}
use Rattle.types.proofs.node_set.NodeSet.contains.Goals as goal

pub returns-else-is_below : goal.returns-else-is_below
returns-else-is_below c = c.if-is_below.false ∙ sym (none_above c.args.self.0 c.args.u (search rules) (search rules))
