-- The network that a view shows.
use Rattle.theory.specs.Network.{Network}
use Rattle.types.specs.Change.{changed}
use Rattle.routes.specs.Matrix.{matrix_network}
use Rattle.routes.specs.declared.view.View.{View}

abbrev pub view_network : View → Network
view_network v = changed v.change.now (matrix_network v.costs.now)
