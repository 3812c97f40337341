use Rattle.std.proofs.Common.{ap₂, get_or, ◌∙◌}
use Rattle.routes.specs.Dijkstra.{relaxed}
use Rattle.routes.specs.View.{view_network}
use Rattle.routes.proofs.Relaxing.{least_more}
use Rattle.routes.proofs.Sets.{size_falls}
use Rattle.routes.proofs.view.View.least_over.Goals as goal

pub loop-e-smaller : goal.loop-e-smaller
loop-e-smaller c =
    let t = c.in-Some.ensures in
    size_falls c.loop-e.rest c.take_first.new.self c.in-Some.e t.1 t.0.within t.0.in_set

pub loop-e-preserved : goal.loop-e-preserved
loop-e-preserved c =
    let z = view_network c.args.self.now in
    let t = c.in-Some.ensures in
    let e = c.in-Some.e in
    let link = c.requires.others e (c.loop-e.invariant.some e t.0.in_set) in
    least_more z c.args.a c.args.others c.loop-e.rest c.take_first.new.self c.args.dist.now e c.loop-e.least c.by_link-least.result t.0.in_set link t.1 c.loop-e.invariant
    (c.by_link-least.ensures ∙ ap₂ (λ k i. relaxed k (get_or c.args.dist.now i 0) c.loop-e.least) c.cost.ensures c.index.ensures)
