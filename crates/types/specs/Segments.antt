-- A list of segments, and how it changes.
use Rattle.std.specs.Prelude.{◌≡◌, ℕ, ◌+◌, ◌<◌, ◌≤◌, Bool, false, List, [], ◌∷◌, ◌++◌, length, take, Some, None, Option, Result, MatchResult, if◌then◌else◌, ◌==◌, nat_le}
use Rattle.types.specs.declared.fault.ReadFault.{ReadFault}
use Rattle.types.specs.declared.fault.ReadFault.TheVariants.{TooManySenderSegments}
use Rattle.types.specs.declared.segment.Segment.{Segment}
use Rattle.types.specs.declared.segment.Segment.TheVariants.{Node, Link}
use Rattle.types.specs.declared.segments.Segments.{Segments}

-- the first ones of the array, as many as are counted
abbrev pub segments_of : {n : ℕ} → Segments n → List Segment
segments_of s = take s.count s.all

abbrev pub first_of : List Segment → Option Segment
first_of [] = None
first_of (s ∷ ss) = Some s

-- one more behind the others, where there is room among n
abbrev pub behind : ℕ → List Segment → Segment → Option (List Segment)
behind n ss s = if nat_le (length ss + 1) n then Some (ss ++ s ∷ []) else None

-- one more in front of them, where there is room among n
abbrev pub in_front : ℕ → List Segment → Segment → Option (List Segment)
in_front n ss s = if nat_le (length ss + 1) n then Some (s ∷ ss) else None

-- one more behind a sender's, where there are fewer than three
abbrev pub Pushed : List Segment → Segment → List Segment → {A : Type 0} → Result A ReadFault → Type 0
Pushed old s new r =
    MatchResult r (λ _. (length old < 3) × (new ≡ old ++ s ∷ []))
    (λ f. (f ≡ TooManySenderSegments) × (3 ≤ length old) × (new ≡ old))

-- node segments that name the node u itself are taken off, up to the first other segment
unfoldable pub strip : ℕ → List Segment → List Segment
strip u [] = []
strip u (Node x ∷ ss) = if x == u then strip u ss else Node x ∷ ss
strip u (Link from to ∷ ss) = Link from to ∷ ss

-- is the first segment the node u?
abbrev pub own_in : ℕ → List Segment → Bool
own_in u [] = false
own_in u (Node x ∷ ss) = x == u
own_in u (Link from to ∷ ss) = false
