use Rattle.std.proofs.Common.{not}
use Rattle.types.specs.NodeSets.{has}
use Rattle.routes.specs.Routes.{routes_network}
use Rattle.theory.proofs.Distances.{count}
use Rattle.routes.proofs.TouchedNodes.{Found}
use Rattle.routes.proofs.routes.Routes.touched.Given as goal

abbrev pub invariant-loop-a : goal.invariant-loop-a
invariant-loop-a l = Found (routes_network l.self) l.change l.fn.d l.touched l.rest

-- each step one node more is done
abbrev pub decreases-loop-a : goal.decreases-loop-a
decreases-loop-a l = count 64 (λ a. not (has l.touched a))
