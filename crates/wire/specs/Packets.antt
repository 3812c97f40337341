-- The bytes of a packet, and how they are read: the header, each segment, the end.
use Rattle.std.specs.Prelude.{ℕ, ◌+◌, ◌*◌, ◌/◌, ◌%◌, ◌<◌, ◌≤◌, if◌then◌else◌, ◌&&◌, List, [], ◌∷◌, length, Some, None, Err, Option, Result, not, ◌==◌, ◌≢◌, nat_lt, slice_index}
use Rattle.std.specs.List.{flat_map}
use Rattle.types.specs.Packet.{Packet}
use Rattle.types.specs.declared.fault.ReadFault.{ReadFault}
use Rattle.types.specs.declared.fault.ReadFault.TheVariants.{UnknownKind, Truncated, NodeOutOfRange, TooManySenderSegments, SelfLink, TooManySegments}
use Rattle.types.specs.declared.segment.Segment.{Segment}
use Rattle.types.specs.declared.segment.Segment.TheVariants.{Node, Link}
use Rattle.wire.specs.declared.error.ReadError.{ReadError}
use Rattle.wire.specs.Cursor.{read_as, Front, whole, judged, piece, pieces_in}
use Rattle.wire.specs.declared.packet.Origin.{Origin}
use Rattle.wire.specs.declared.packet.Origin.TheVariants.{Sender, Neighbour}

-- what is written of a segment: 0 and the node, or 1 and the link's two nodes
abbrev pub segment_bytes : Segment → List ℕ
segment_bytes (Node x) = 0 ∷ (x ∷ [])
segment_bytes (Link from to) = 1 ∷ (from ∷ (to ∷ []))

-- and of a packet: 2, the destination, the hop limit (2, the high byte first), the number of segments, and each segment
abbrev pub packet_bytes : Packet → List ℕ
packet_bytes p =
    let segments = length p.segments ∷ flat_map segment_bytes p.segments in
    2 ∷ (p.destination ∷ (p.hop_limit / 256 ∷ (p.hop_limit % 256 ∷ segments)))

-- which packets are lawful among n nodes
abbrev pub SegmentLawful : ℕ → Segment → Type 0
SegmentLawful n (Node x) = x < n
SegmentLawful n (Link from to) = (from < n) × (to < n) × (from ≢ to)

abbrev pub SegmentsLawful : ℕ → List Segment → Type 0
SegmentsLawful n [] = Unit {0}
SegmentsLawful n (s ∷ ss) = SegmentLawful n s × SegmentsLawful n ss

-- how many segments it may have, and the fault of more
abbrev pub most : Origin → ℕ
most Sender = 3
most Neighbour = 5

abbrev pub too_many : Origin → ReadFault
too_many Sender = TooManySenderSegments
too_many Neighbour = TooManySegments

pub record PacketLawful (from : Origin) (n : ℕ) (p : Packet) : Type 0 where
  pub within : p.destination < n
  pub few : length p.segments ≤ most from
  pub segments : SegmentsLawful n p.segments

-- the segment in front: 0 and a node, or 1 and a link's two nodes
abbrev pub segment_at : List ℕ → Front Segment
segment_at bs =
    if length bs == 0 then Err Truncated
    else if slice_index bs 0 == 0 then whole 2 bs (Node (slice_index bs 1))
    else if slice_index bs 0 == 1 then whole 3 bs (Link (slice_index bs 1) (slice_index bs 2))
    else Err UnknownKind

-- why a segment is refused among n nodes: the lowest number that applies
abbrev pub segment_fault : ℕ → Segment → Option ReadFault
segment_fault n (Node x) = if not (nat_lt x n) then Some NodeOutOfRange else None
segment_fault n (Link from to) =
    if not (nat_lt from n && nat_lt to n) then Some NodeOutOfRange
    else if from == to then Some SelfLink
    else None

-- k segments behind the last one, and then the end; of all the bytes, which are m, bs are left
abbrev pub segments_in : ℕ → ℕ → Option Segment → ℕ → List ℕ → Result (List Segment) ReadError
segments_in n k last m bs = pieces_in segment_at (λ _ s. segment_fault n s) k last m bs

pub record Header : Type 0 where
  pub kind : ℕ
  pub destination : ℕ
  pub hop_limit : ℕ
  pub count : ℕ

abbrev pub header_of : List ℕ → Header
header_of bs = record {
  kind = slice_index bs 0;
  destination = slice_index bs 1;
  hop_limit = slice_index bs 2 * 256 + slice_index bs 3;
  count = slice_index bs 4;
}

-- why a header is refused
abbrev pub header_fault : Origin → ℕ → (kind destination count : ℕ) → Option ReadFault
header_fault from n kind destination count =
    if not (kind == 2) then Some UnknownKind
    else if not (nat_lt destination n) then Some NodeOutOfRange
    else if nat_lt (most from) count then Some (too_many from)
    else None

abbrev pub with_header : Header → List Segment → Packet
with_header h ss = record { destination = h.destination; hop_limit = h.hop_limit; segments = ss }

-- what is read: the packet, or the first fault and the byte at which its piece begins
abbrev pub packet_in : Origin → ℕ → List ℕ → Result Packet ReadError
packet_in from n bs =
    piece 0 (judged (λ h. header_fault from n h.kind h.destination h.count) (whole 5 bs (header_of bs)))
    (λ h rest. read_as (with_header h) (segments_in n h.count None (length bs) rest))
