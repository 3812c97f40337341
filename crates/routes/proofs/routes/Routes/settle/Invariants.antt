use Rattle.types.specs.Change.{changed}
use Rattle.routes.specs.Routes.{routes_network}
use Rattle.routes.proofs.Sets.{size_of}
use Rattle.routes.proofs.Starting.{Begun}
use Rattle.routes.proofs.routes.Routes.settle.Given as goal

abbrev pub invariant-loop-a : goal.invariant-loop-a
invariant-loop-a l = Begun (changed l.change (routes_network l.self)) l.fn.d l.fn.touched l.rest l.initial.dist l.dist

abbrev pub decreases-loop-a : goal.decreases-loop-a
decreases-loop-a l = size_of l.rest
