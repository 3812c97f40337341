use Rattle.std.proofs.Common.{◌≡◌, ℕ, ◌+◌, ◌*◌, ◌<◌, length, slice_index}
use Rattle.routes.specs.View.{view_network}
use Rattle.routes.proofs.view.View.to_matrix.Given as goal

abbrev pub invariant-loop-a : goal.invariant-loop-a
invariant-loop-a l =
    let z = view_network l.self in
    (length l.costs ≡ 4096) × ((a b : ℕ) → (a < l.a) × (b < z.n) → slice_index l.costs (a * 64 + b) ≡ z.cost a b)
