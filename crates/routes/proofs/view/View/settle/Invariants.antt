use Rattle.std.proofs.Common.{◌≡◌, ℕ, length}
use Rattle.routes.specs.Dijkstra.{AllBelow}
use Rattle.routes.specs.Dijkstra.{Standing}
use Rattle.routes.specs.View.{view_network}
use Rattle.routes.proofs.Sets.{size_of}
use Rattle.routes.proofs.view.View.settle.Given as goal

abbrev pub invariant-loop-u : goal.invariant-loop-u
invariant-loop-u l =
    let z = view_network l.self in
    AllBelow z.n l.unsettled × (length l.dist ≡ z.n) × ((d : ℕ) → Standing z d l.initial.unsettled l.initial.dist → Standing z d l.unsettled l.dist)

abbrev pub decreases-loop-u : goal.decreases-loop-u
decreases-loop-u l = size_of l.unsettled
