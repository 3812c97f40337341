-- The network that a cost matrix is.
use Rattle.theory.specs.Network.{Network}
use Rattle.routes.specs.Costs.{network_in}
use Rattle.routes.specs.declared.matrix.CostMatrix.{CostMatrix}

abbrev pub matrix_network : CostMatrix → Network
matrix_network m = network_in m.nodes m.costs
