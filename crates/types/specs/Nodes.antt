-- The nodes below a number, one after another.
use Rattle.std.specs.Prelude.{◌≡◌, ℕ, ◌+◌, ◌<◌, Option, MatchOption}
use Rattle.types.specs.declared.nodes.Nodes.{Nodes}

-- the first of them is taken, if there is one
abbrev pub TakesFirst : (old new : Nodes) → Option ℕ → Type 0
TakesFirst old new r =
    (new.end ≡ old.end) ×
    MatchOption r ((old.next ≡ old.end) × (new.next ≡ old.end))
    (λ u. (u ≡ old.next) × (u < old.end) × (new.next ≡ u + 1))
