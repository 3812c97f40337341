-- A node's table of repairs: 64 rows of 64 entries, the row of a link by its other end, a column for each destination.
use Rattle.std.specs.Prelude.{◌≡◌, ℕ, ◌+◌, ◌*◌, ◌<◌, ◌≤◌, ◌⊎◌, List, slice_index_or}
use Rattle.theory.specs.Network.{Network}
use Rattle.theory.specs.Repair.{laid}
use Rattle.repairs.specs.Entries.{meaning}
use Rattle.repairs.specs.Serving.{Right}
use Rattle.repairs.specs.declared.repair.Entry.{Entry}
use Rattle.repairs.specs.declared.repair.Entry.TheVariants.{Unused}

-- the first k entries of a row are those of s for its link to f
abbrev pub IsRow : Network → ℕ → ℕ → ℕ → List Entry → Type 0
IsRow z s f k row = (d : ℕ) → d < k → meaning (slice_index_or row d Unused) ≡ laid z s f d

-- and so they are right
abbrev pub IsRowRight : Network → ℕ → ℕ → List Entry → Type 0
IsRowRight z s f row = (d : ℕ) → d < z.n → Right z s f d (slice_index_or row d Unused)

-- in the table the row of f is filled, and the rest is as it was
pub record IsLinkFilled (z : Network) (s f : ℕ) (old new : List Entry) : Type 0 where
  pub row : (d : ℕ) → d < z.n → meaning (slice_index_or new (f * 64 + d) Unused) ≡ laid z s f d
  pub right : (d : ℕ) → d < z.n → Right z s f d (slice_index_or new (f * 64 + d) Unused)
  pub rest : (i : ℕ) → (i < f * 64) ⊎ (f * 64 + z.n ≤ i) →
      slice_index_or new i Unused ≡ slice_index_or old i Unused
