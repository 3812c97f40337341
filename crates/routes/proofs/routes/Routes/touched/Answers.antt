use Rattle.routes.specs.Routes.{routes_network}
use Rattle.routes.proofs.Changes.{routes_lawful, routes_limited}
use Rattle.routes.proofs.TouchedNodes.{found_first, found_more, found_all, undone_falls}
use Rattle.routes.proofs.routes.Routes.touched.Goals as goal

pub loop-a-init : goal.loop-a-init
loop-a-init c =
    let r = c.args.self.now in
    found_first (routes_network r) (routes_lawful r) (routes_limited r) c.args.change.now c.args.d c.senders-senders.result c.senders-senders.ensures c.empty-touched.result c.empty-touched.ensures

pub loop-a-smaller : goal.loop-a-smaller
loop-a-smaller c =
    let t = c.in-Some.ensures in
    undone_falls c.in-Some.a c.loop-a.touched c.insert.new.self c.insert.ensures t.0.within (c.loop-a.invariant.apart c.in-Some.a t.0.in_set)

pub loop-a-preserved : goal.loop-a-preserved
loop-a-preserved c =
    let r = c.args.self.now in
    let t = c.in-Some.ensures in
    found_more (routes_network r) (routes_lawful r) (routes_limited r) c.args.change.now c.args.d c.senders-senders.result c.senders-senders.ensures c.loop-a.touched c.loop-a.rest c.take_first.new.self c.insert.new.self c.or-rest.result c.minus.result c.in-Some.a t.0.in_set t.1 c.insert.ensures (rw c.index.ensures at c.minus.ensures) c.or-rest.ensures c.loop-a.invariant

pub returns : goal.returns
returns c =
    let r = c.args.self.now in
    found_all (routes_network r) (routes_lawful r) (routes_limited r) c.args.change.now c.args.d c.senders-senders.result c.senders-senders.ensures c.loop-a.touched c.loop-a.rest c.in_default.ensures.1 c.loop-a.invariant
