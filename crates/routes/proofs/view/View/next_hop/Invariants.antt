use Rattle.std.proofs.Common.{◌≡◌, ℕ, None, true, false, ltb}
use Rattle.types.specs.NodeSets.{has}
use Rattle.routes.specs.View.{view_network}
use Rattle.routes.proofs.Hops.{Near}
use Rattle.routes.proofs.Sets.{size_of}
use Rattle.routes.proofs.view.View.next_hop.Given as goal

-- the rest are neighbours, and none of the others passes
abbrev pub invariant-nearest : goal.invariant-nearest
invariant-nearest l =
    let z = view_network l.self in
    (l.found ≡ None) × ((y : ℕ) → has l.rest y ≡ true → ltb 0 (z.cost l.a y) ≡ true) ×
    ((y : ℕ) → ltb 0 (z.cost l.a y) ≡ true → has l.rest y ≡ false → Near (z.cost l.a y) l.dist l.here y → ⊥)

abbrev pub decreases-nearest : goal.decreases-nearest
decreases-nearest l = size_of l.rest
