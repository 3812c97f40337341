-- The network that routes are for.
use Rattle.theory.specs.Network.{Network}
use Rattle.routes.specs.Matrix.{matrix_network}
use Rattle.routes.specs.declared.routes.Routes.{Routes}

abbrev pub routes_network : Routes → Network
routes_network r = matrix_network r.costs
