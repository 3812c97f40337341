use Rattle.std.proofs.Common.{◌∙◌, rules}
use Rattle.types.specs.NodeSets.{has}
use Rattle.types.proofs.NodeBits.{without_only, minus_has, none_above}
use Rattle.types.proofs.node_set.NodeSet.remove.Goals as goal

pub returns : goal.returns
returns c v =
    let s = c.args.self.now in
    minus_has s.0 c.only.result.0 v (search rules) (search rules) ∙
    without_only (has s) (has c.only.result) c.args.u c.only.ensures (λ x h. none_above s.0 x (search rules) h) v
