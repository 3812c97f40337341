use Rattle.std.proofs.Common.{ap, ◌∙◌, ◌||◌}
use Rattle.types.specs.NodeSets.{has}
use Rattle.types.proofs.NodeBits.{or_has}
use Rattle.types.proofs.node_set.NodeSet.insert.Goals as goal

pub returns : goal.returns
returns c v = or_has c.only.result.0 c.args.self.now.0 v ∙ ap (λ b. b || has c.args.self.now v) (c.only.ensures v)
