use Rattle.routes.specs.View.{view_network}
use Rattle.routes.proofs.Relaxing.{LeastBut}
use Rattle.routes.proofs.Sets.{size_of}
use Rattle.routes.proofs.view.View.least_over.Given as goal

abbrev pub invariant-loop-e : goal.invariant-loop-e
invariant-loop-e l = LeastBut (view_network l.self) l.a l.fn.others l.rest l.dist l.least

abbrev pub decreases-loop-e : goal.decreases-loop-e
decreases-loop-e l = size_of l.rest
