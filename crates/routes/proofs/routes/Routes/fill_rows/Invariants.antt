use Rattle.types.specs.Change.{changed}
use Rattle.routes.specs.Distances.{DistanceRows}
use Rattle.routes.specs.NextHops.{HopRows}
use Rattle.routes.specs.Routes.{routes_network}
use Rattle.routes.proofs.routes.Routes.fill_rows.Given as goal

abbrev pub invariant-loop-d : goal.invariant-loop-d
invariant-loop-d l =
    let y = changed l.change (routes_network l.self) in DistanceRows y l.d l.dist × HopRows y l.d l.hops
