use Rattle.routes.specs.View.{view_network}
use Rattle.routes.proofs.Relaxing.{RelaxedBut}
use Rattle.routes.proofs.Sets.{size_of}
use Rattle.routes.proofs.view.View.relax.Given as goal

abbrev pub invariant-loop-e : goal.invariant-loop-e
invariant-loop-e l = RelaxedBut (view_network l.self) l.u l.here l.fn.others l.rest l.initial.dist l.dist

abbrev pub decreases-loop-e : goal.decreases-loop-e
decreases-loop-e l = size_of l.rest
