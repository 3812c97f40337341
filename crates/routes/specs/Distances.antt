-- Distances as numbers of 32 bits, in slices and in rows of 64.
use Rattle.std.specs.Prelude.{◌≡◌, ℕ, ◌+◌, ◌*◌, ◌<◌, List, length, Some, None, Option, if◌then◌else◌, ◌==◌, slice_index}
use Rattle.theory.specs.Network.{Network}
use Rattle.theory.specs.Distance.{distance}

-- 2^32 - 1 stands for none
abbrev pub decoded : ℕ → Option ℕ
decoded c = if c == 4294967295 then None else Some c

-- l has the distance of each node from d
pub record Filled (z : Network) (d : ℕ) (l : List ℕ) : Type 0 where
  pub size : length l ≡ z.n
  pub each : (a : ℕ) → a < z.n → decoded (slice_index l a) ≡ distance z d a

-- in the first k rows of 64, row d has the distance of each node from d
abbrev pub DistanceRows : Network → ℕ → List ℕ → Type 0
DistanceRows z k l =
    (d a : ℕ) → (d < k) × (a < z.n) → decoded (slice_index l (d * 64 + a)) ≡ distance z d a
