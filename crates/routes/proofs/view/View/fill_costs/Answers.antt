use Rattle.std.proofs.Common.{refl, arith}
use Rattle.routes.specs.View.{view_network}
use Rattle.routes.proofs.Changes.{view_lawful}
use Rattle.routes.proofs.Costs.{written_none, written_more, written_all}
use Rattle.routes.proofs.Sets.{size_falls}
use Rattle.routes.proofs.view.View.fill_costs.Goals as goal

pub loop-b-init : goal.loop-b-init
loop-b-init c =
    written_none (view_network c.args.self.now) c.args.a c.neighbours-rest.result c.fill.new.self c.neighbours-rest.ensures (omega arith) (λ k h. c.fill.ensures.clones k 0 (omega arith) refl)

pub loop-b-smaller : goal.loop-b-smaller
loop-b-smaller c =
    let t = c.in-Some.ensures in
    size_falls c.loop-b.rest c.take_first.new.self c.in-Some.b t.1 t.0.within t.0.in_set

pub loop-b-preserved : goal.loop-b-preserved
loop-b-preserved c =
    let v = c.args.self.now in
    let t = c.in-Some.ensures in
    let link = c.loop-b.invariant.some c.in-Some.b t.0.in_set in
    rw c.index.ensures (written_more (view_network v) c.args.a c.loop-b.rest c.take_first.new.self c.loop-b.row c.in-Some.b c.cost.result ((view_lawful v).within c.args.a c.in-Some.b link).1 t.1 c.cost.ensures c.loop-b.invariant)

pub returns : goal.returns
returns c = written_all (view_network c.args.self.now) c.args.a c.loop-b.rest c.loop-b.row c.in_default.ensures.1 c.loop-b.invariant
