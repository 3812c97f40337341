use Rattle.std.proofs.Common.{◌≡◌, ℕ, ◌<◌, Option, ◌++◌, string_bytes}
use Rattle.render.specs.Text.{cell, rows}
use Rattle.render.proofs.tables.push_table.Given as goal

abbrev pub invariant-loop-a : goal.invariant-loop-a
invariant-loop-a g l =
    (l.a-iterator.end ≡ l.nodes) ×
    ((v : ℕ → ℕ → Option ℕ) →
    ((a d : ℕ) (r : Option ℕ) → a < l.nodes → d < l.nodes → goal.F-post g l.value a d r → r ≡ v a d) →
    string_bytes l.out ≡ (string_bytes l.initial.out ++ rows l.nodes (λ a d. cell (v a d)) l.a-iterator.next))
