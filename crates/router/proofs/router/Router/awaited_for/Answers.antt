use Rattle.std.proofs.Common.{inr, arith}
use Rattle.protocol.specs.Hearing.{awaited}
use Rattle.router.proofs.Awaited.{upto_with, upto_without, upto_all, awaited_outside}
use Rattle.router.proofs.router.Router.awaited_for.Goals as goal
use Rattle.router.proofs.router.Router.awaited_for.Goals.{then-awaits, else-awaits}
use Rattle.router.specs.Model.{model}
use Rattle.types.specs.NodeSets.{has}

pub loop-u-preserved : goal.loop-u-preserved
loop-u-preserved c =
    let p = awaited (model c.args.self.now) c.args.link c.args.destination in
    elim c.if-awaits.branch [
      | then-awaits w ↦ rw w.set-is (upto_with c.loop-u.u p (has c.loop-u.set) (has w.insert.new.self) (omega arith) c.loop-u.invariant w.if-awaits.ensures w.insert.ensures)
      | else-awaits w ↦ rw w.set-is (upto_without c.loop-u.u p (has c.loop-u.set) c.loop-u.invariant w.if-awaits.ensures)
    ]

pub returns : goal.returns
returns c =
    let r = c.args.self.now in
    let s = model r in
    record { each = upto_all s.links.n c.loop-u.u (awaited s c.args.link c.args.destination) (has c.loop-u.set) (omega arith) (λ v h. awaited_outside s (r.routes.costs.lawful) c.args.link c.args.destination v (inr h)) c.loop-u.invariant }
