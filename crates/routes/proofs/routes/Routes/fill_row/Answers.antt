use Rattle.std.proofs.Common.{subst, arith}
use Rattle.theory.specs.Network.{Network}
use Rattle.types.specs.Change.{changed}
use Rattle.routes.specs.NextHops.{HopBy}
use Rattle.routes.specs.Routes.{routes_network}
use Rattle.routes.proofs.Changes.{changed_nodes}
use Rattle.routes.proofs.Renewing.{renewed_none, renewed_more, renewed_all}
use Rattle.routes.proofs.Sets.{size_falls}
use Rattle.routes.proofs.routes.Routes.fill_row.Goals as goal

pub loop-a-init : goal.loop-a-init
loop-a-init c = renewed_none (changed c.args.change.now (routes_network c.args.self.now)) c.args.d c.touched-touched.result c.copy_from_slice.new.self

pub loop-a-smaller : goal.loop-a-smaller
loop-a-smaller c =
    let t = c.in-Some.ensures in
    size_falls c.loop-a.rest c.take_first.new.self c.in-Some.a t.1 t.0.within t.0.in_set

pub loop-a-preserved : goal.loop-a-preserved
loop-a-preserved c =
    let t = c.in-Some.ensures in
    let a = c.in-Some.a in
    let y = changed c.args.change.now (routes_network c.args.self.now) in
    let within = c.touched-touched.ensures.within a (c.loop-a.invariant.some a t.0.in_set) in
    let h = subst (λ (z : Network). HopBy z c.settle.new.dist a c.next_hop.result) c.after-view.ensures.network c.next_hop.ensures in
    rw c.index.ensures (renewed_more y c.args.d c.touched-touched.result c.loop-a.rest c.take_first.new.self c.copy_from_slice.new.self c.loop-a.hops a c.next_hop.result t.0.in_set t.1 (omega (arith, within)) (h c.args.d c.settle.ensures) c.loop-a.invariant)

pub returns-clause-next : goal.returns-clause-next
returns-clause-next c =
    let z = routes_network c.args.self.now in
    let y = changed c.args.change.now z in
    renewed_all z y c.args.d c.touched-touched.result c.loop-a.rest c.copy_from_slice.new.self c.loop-a.hops (changed_nodes c.args.change.now z) c.touched-touched.ensures c.in_default.ensures.1 (rw c.copy_from_slice.ensures.after c.hops_for.ensures.row) c.loop-a.invariant
