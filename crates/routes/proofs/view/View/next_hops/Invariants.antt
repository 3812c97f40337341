use Rattle.routes.specs.NextHops.{HopsBy}
use Rattle.routes.specs.View.{view_network}
use Rattle.routes.proofs.view.View.next_hops.Given as goal

abbrev pub invariant-loop-a : goal.invariant-loop-a
invariant-loop-a l = HopsBy (view_network l.self) l.dist l.a l.hops
