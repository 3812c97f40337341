use Rattle.std.proofs.Common.{◌≡◌, ℕ, ◌<◌, Option, ◌++◌, string_bytes}
use Rattle.render.specs.Text.{cell, cells}
use Rattle.render.proofs.tables.push_cells.Given as goal

abbrev pub invariant-loop-d : goal.invariant-loop-d
invariant-loop-d g l =
    (l.d-iterator.end ≡ l.nodes) ×
    ((v : ℕ → Option ℕ) →
    ((d : ℕ) (r : Option ℕ) → d < l.nodes → goal.F-post g l.value d r → r ≡ v d) →
    string_bytes l.out ≡ (string_bytes l.initial.out ++ cells (λ d. cell (v d)) l.d-iterator.next))
