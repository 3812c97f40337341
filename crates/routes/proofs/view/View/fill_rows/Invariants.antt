use Rattle.routes.specs.Distances.{DistanceRows}
use Rattle.routes.specs.NextHops.{HopRows}
use Rattle.routes.specs.View.{view_network}
use Rattle.routes.proofs.view.View.fill_rows.Given as goal

abbrev pub invariant-loop-d : goal.invariant-loop-d
invariant-loop-d l = let z = view_network l.self in DistanceRows z l.d l.dist × HopRows z l.d l.hops
