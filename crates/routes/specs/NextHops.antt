-- Next hops in slices and in rows of 64, and found from distances.
use Rattle.std.specs.Prelude.{◌≡◌, ℕ, ◌+◌, ◌*◌, ◌<◌, List, None, Option, slice_index_or}
use Rattle.theory.specs.Network.{Network}
use Rattle.theory.specs.NextHop.{next_hop}
use Rattle.routes.specs.Distances.{Filled}

-- l has the next hop of each node for d
abbrev pub HopRow : Network → ℕ → List (Option ℕ) → Type 0
HopRow z d l = (a : ℕ) → a < z.n → slice_index_or l a None ≡ next_hop z d a

-- in the first k rows of 64, row d has the next hop of each node for d
abbrev pub HopRows : Network → ℕ → List (Option ℕ) → Type 0
HopRows z k l =
    (d a : ℕ) → (d < k) × (a < z.n) → slice_index_or l (d * 64 + a) None ≡ next_hop z d a

-- h is the next hop of a for d, whatever d the distances go to
abbrev pub HopBy : Network → List ℕ → ℕ → Option ℕ → Type 0
HopBy z dist a h = (d : ℕ) → Filled z d dist → h ≡ next_hop z d a

-- so l has those of the first k nodes
abbrev pub HopsBy : Network → List ℕ → ℕ → List (Option ℕ) → Type 0
HopsBy z dist k l = (a : ℕ) → a < k → HopBy z dist a (slice_index_or l a None)
