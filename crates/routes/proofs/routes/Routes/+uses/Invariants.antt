use Rattle.theory.proofs.HopPaths.{hops}
use Rattle.routes.specs.Routes.{routes_network}
use Rattle.routes.proofs.routes.Routes.+uses.Given as goal

abbrev pub decreases-uses : goal.decreases-uses
decreases-uses l = hops (routes_network l.self.now) l.d l.a
