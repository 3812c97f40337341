use Rattle.std.proofs.Common.{◌≡◌, ℕ, ◌<◌, ◌≤◌, get_or, length}
use Rattle.routes.specs.Dijkstra.{relaxed}
use Rattle.routes.proofs.view.relax_row.Given as goal

abbrev pub invariant-loop-e : goal.invariant-loop-e
invariant-loop-e l =
    (length l.dist ≡ length l.initial.dist) ×
    ((k : ℕ) → k < l.e → get_or l.dist k 0 ≡ relaxed (get_or l.row k 0) l.here (get_or l.initial.dist k 0)) ×
    ((k : ℕ) → l.e ≤ k → get_or l.dist k 0 ≡ get_or l.initial.dist k 0)
