use Rattle.routes.specs.View.{view_network}
use Rattle.routes.proofs.Costs.{Written}
use Rattle.routes.proofs.Sets.{size_of}
use Rattle.routes.proofs.view.View.fill_costs.Given as goal

abbrev pub invariant-loop-b : goal.invariant-loop-b
invariant-loop-b l = Written (view_network l.self) l.a l.rest l.row

abbrev pub decreases-loop-b : goal.decreases-loop-b
decreases-loop-b l = size_of l.rest
