use Rattle.std.proofs.Common.{◌≡◌, ℕ, ◌<◌, ltb, length}
use Rattle.types.specs.NodeSets.{has}
use Rattle.routes.specs.Costs.{cost_at}
use Rattle.routes.specs.Neighbours.{set_at}
use Rattle.routes.proofs.matrix.neighbours_by.Given as goal

abbrev pub invariant-loop-a : goal.invariant-loop-a
invariant-loop-a l = (length l.sets ≡ 64) × ((a b : ℕ) → a < l.a → has (set_at l.sets a) b ≡ ltb 0 (cost_at l.nodes l.costs a b))
