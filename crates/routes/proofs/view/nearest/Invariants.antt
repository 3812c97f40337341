use Rattle.std.proofs.Common.{◌≡◌, ℕ, ◌<◌, ◌≤◌, true, ◌⊎◌, get_or}
use Rattle.types.specs.NodeSets.{has}
use Rattle.routes.proofs.Sets.{size_of}
use Rattle.routes.proofs.view.nearest.Given as goal

-- the rest are some of the nodes, and of the others none is nearer than the best
abbrev pub invariant-loop-u : goal.invariant-loop-u
invariant-loop-u l =
    ((v : ℕ) → has l.rest v ≡ true → has l.fn.nodes v ≡ true) × ((v : ℕ) → has l.fn.nodes v ≡ true → (has l.rest v ≡ true) ⊎ (l.least ≤ get_or l.dist v 0)) ×
    (l.least ≤ 4294967295) × (l.least < 4294967295 → (has l.fn.nodes l.best ≡ true) × (l.least ≡ get_or l.dist l.best 0))

abbrev pub decreases-loop-u : goal.decreases-loop-u
decreases-loop-u l = size_of l.rest
