use Rattle.types.specs.Change.{changed}
use Rattle.routes.specs.Routes.{routes_network}
use Rattle.routes.specs.Touched.{Sorted}
use Rattle.routes.proofs.routes.Routes.senders.Given as goal

abbrev pub invariant-loop-a : goal.invariant-loop-a
invariant-loop-a l = let z = routes_network l.self in Sorted z (changed l.change z) l.d l.a l.senders
