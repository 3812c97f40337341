use Rattle.theory.proofs.HopPaths.{hops}
use Rattle.routes.specs.Routes.{routes_network}
use Rattle.routes.proofs.routes.Routes.+follow.Given as goal

abbrev pub decreases-follow : goal.decreases-follow
decreases-follow l = hops (routes_network l.self.now) l.d l.a
