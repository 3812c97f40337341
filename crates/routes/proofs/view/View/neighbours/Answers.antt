use Rattle.std.proofs.Common.{◌∙◌, ◌&&◌, not, ap}
use Rattle.types.specs.NodeSets.{has}
use Rattle.routes.specs.Matrix.{matrix_network}
use Rattle.routes.proofs.Changes.{links_left}
use Rattle.routes.proofs.view.View.neighbours.Goals as goal

pub returns : goal.returns
returns c b =
    let v = c.args.self.now in
    c.minus.ensures b ∙ (ap (λ x. x && not (has c.lost.result b)) (c.neighbours.ensures b) ∙ links_left v.change.now (matrix_network v.costs.now) c.args.a b (has c.lost.result b) (c.lost.ensures b))
