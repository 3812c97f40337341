use Rattle.std.proofs.Common.{◌≡◌, ℕ, ◌&&◌, not, ltb, subst, ◌∙◌, ap}
use Rattle.theory.specs.Network.{Network}
use Rattle.types.specs.Change.{changed}
use Rattle.types.specs.NodeSets.{has}
use Rattle.routes.specs.Dijkstra.{LeastOver, Standing}
use Rattle.routes.specs.Distances.{Filled}
use Rattle.routes.specs.Routes.{routes_network}
use Rattle.routes.proofs.Sets.{size_falls}
use Rattle.routes.proofs.Starting.{setting, begun_none, begun_more, begun_all}
use Rattle.routes.proofs.routes.Routes.settle.Goals as goal

pub loop-a-init : goal.loop-a-init
loop-a-init c =
    let r = c.args.self.now in
    let z = routes_network r in
    let old = c.copy_from_slice.new.self in
    let g = setting r c.args.change.now c.args.d c.args.touched old c.requires.node c.requires.touched (rw c.copy_from_slice.ensures.after c.distances_from.ensures) in
    begun_none z (changed c.args.change.now z) c.args.d c.args.touched old g

pub loop-a-smaller : goal.loop-a-smaller
loop-a-smaller c =
    let t = c.in-Some.ensures in
    size_falls c.loop-a.rest c.take_first.new.self c.in-Some.a t.1 t.0.within t.0.in_set

pub loop-a-preserved : goal.loop-a-preserved
loop-a-preserved c =
    let r = c.args.self.now in
    let z = routes_network r in
    let y = changed c.args.change.now z in
    let a = c.in-Some.a in
    let t = c.in-Some.ensures in
    let old = c.copy_from_slice.new.self in
    let g = setting r c.args.change.now c.args.d c.args.touched old c.requires.node c.requires.touched (rw c.copy_from_slice.ensures.after c.distances_from.ensures) in
    let o = subst (λ (x : Network). LeastOver x a c.minus.result c.loop-a.dist c.least_over.result) c.after-view.ensures.network c.least_over.ensures in
    let n = subst (λ (x : Network). (e : ℕ) → has c.neighbours.result e ≡ ltb 0 (x.cost a e)) c.after-view.ensures.network c.neighbours.ensures in
    let others = λ (e : ℕ). c.minus.ensures e ∙ ap (λ b. b && not (has c.args.touched e)) (n e) in
    rw c.index.ensures (begun_more z y c.args.d c.args.touched old g c.loop-a.rest c.take_first.new.self c.minus.result c.loop-a.dist a c.least_over.result t.0.in_set t.1 others c.loop-a.invariant o)

pub returns : goal.returns
returns c =
    let r = c.args.self.now in
    let z = routes_network r in
    let y = changed c.args.change.now z in
    let old = c.copy_from_slice.new.self in
    let g = setting r c.args.change.now c.args.d c.args.touched old c.requires.node c.requires.touched (rw c.copy_from_slice.ensures.after c.distances_from.ensures) in
    let s = begun_all z y c.args.d c.args.touched old g c.loop-a.rest c.loop-a.dist c.in_default.ensures.1 c.loop-a.invariant in
    let P : Network → Type 0 = λ x. Standing x c.args.d c.args.touched c.loop-a.dist → Filled x c.args.d c.settle.new.dist in
    subst P c.after-view.ensures.network (c.settle.ensures c.args.d) s
