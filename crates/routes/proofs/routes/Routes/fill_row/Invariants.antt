use Rattle.types.specs.Change.{changed}
use Rattle.routes.specs.Routes.{routes_network}
use Rattle.routes.proofs.Renewing.{Renewed}
use Rattle.routes.proofs.Sets.{size_of}
use Rattle.routes.proofs.routes.Routes.fill_row.Given as goal

abbrev pub invariant-loop-a : goal.invariant-loop-a
invariant-loop-a l = Renewed (changed l.change (routes_network l.self)) l.fn.d l.initial.rest l.rest l.initial.hops l.hops

abbrev pub decreases-loop-a : goal.decreases-loop-a
decreases-loop-a l = size_of l.rest
