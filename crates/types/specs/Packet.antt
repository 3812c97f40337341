-- A packet as the rules see it, and what may be changed of it.
use Rattle.std.specs.Prelude.{ℕ, ◌+◌, ◌-◌, List, [], ◌∷◌, ◌++◌, length, drop, Some, None, Option, if◌then◌else◌, ◌==◌, nat_le}
use Rattle.types.specs.Segments.{segments_of, strip}
use Rattle.types.specs.declared.segment.Segment.{Segment}
use Rattle.types.specs.declared.segment.Segment.TheVariants.{Node, Link}
use Rattle.types.specs.declared.packet.Packet as code

pub record Packet : Type 0 where
  pub destination : ℕ
  pub hop_limit : ℕ
  pub segments : List Segment

abbrev pub packet_of : code.Packet → Packet
packet_of p = record { destination = p.destination; hop_limit = p.hop_limit; segments = segments_of p.segments }

-- as its sender makes it
abbrev pub fresh : ℕ → List Segment → Packet
fresh d ss = record { destination = d; hop_limit = 65535; segments = ss }

-- with no segments
abbrev pub bare : ℕ → ℕ → Packet
bare d h = record { destination = d; hop_limit = h; segments = [] }

-- the same with other segments
abbrev pub with_segments : Packet → List Segment → Packet
with_segments p ss = record { destination = p.destination; hop_limit = p.hop_limit; segments = ss }

abbrev pub behind_first : Packet → Packet
behind_first p = with_segments p (drop 1 p.segments)

abbrev pub stripped : ℕ → Packet → Packet
stripped u p = with_segments p (strip u p.segments)

-- one segment behind the others, where there is room
abbrev pub longer : Packet → Segment → Option Packet
longer p s = if nat_le (length p.segments + 1) 5 then Some (with_segments p (p.segments ++ s ∷ [])) else None

-- a repair's two segments in front, where there is room
abbrev pub repaired : Packet → ℕ → ℕ → Option Packet
repaired p a b =
    if nat_le (length p.segments + 2) 5 then Some (with_segments p (Node a ∷ (Link a b ∷ p.segments))) else None

-- one hop less, if one is left
abbrev pub one_less : Packet → Option Packet
one_less p =
    if p.hop_limit == 0 then None
    else Some (record { destination = p.destination; hop_limit = p.hop_limit - 1; segments = p.segments })
