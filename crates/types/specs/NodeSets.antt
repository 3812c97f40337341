-- Sets of nodes as the bits of a number.
use Rattle.std.specs.Prelude.{◌≡◌, ℕ, ◌<◌, Bool, true, false, not, ◌&&◌, Option, MatchOption, ◌==◌}
use Rattle.std.specs.Int.{bit_at}
use Rattle.types.specs.declared.node_set.NodeSet.{NodeSet}

-- is u in the set?
abbrev pub has : NodeSet → ℕ → Bool
has s u = bit_at s.0 u == 1

-- u is the lowest node of the set
pub record Lowest (s : NodeSet) (u : ℕ) : Type 0 where
  pub within : u < 64
  pub in_set : has s u ≡ true
  pub none_lower : (v : ℕ) → v < u → has s v ≡ false

-- it is the lowest node, or there is none
abbrev pub IsFirst : NodeSet → Option ℕ → Type 0
IsFirst s r = MatchOption r ((u : ℕ) → has s u ≡ false) (λ u. Lowest s u)

-- the lowest is taken out, if there is one
abbrev pub TakenFirst : (old new : NodeSet) → Option ℕ → Type 0
TakenFirst old new r =
    MatchOption r ((new ≡ old) × ((u : ℕ) → has old u ≡ false))
    (λ u. Lowest old u × ((v : ℕ) → has new v ≡ (has old v && not (v == u))))
