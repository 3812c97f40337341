-- What is written of a packet reads back as what it was, and what is read was written so.
use Rattle.std.proofs.Common.{◌≡◌, ℕ, ◌<◌, ◌≤◌, List, [], ◌∷◌, ◌++◌, length, get_or, drop, None, Some, Ok, Option, sym, refl, ap, ◌∙◌, subst, append_assoc, arith, rules}
use Rattle.std.proofs.lemmas.Nat.{div-mul-add, mod-mul-add}
use Rattle.types.specs.Packet.{Packet, with_segments, longer}
use Rattle.types.specs.declared.fault.ReadFault.{ReadFault}
use Rattle.types.specs.declared.segment.Segment.{Segment}
use Rattle.types.specs.declared.segment.Segment.TheVariants.{Node, Link}
use Rattle.wire.specs.declared.packet.Origin.{Origin}
use Rattle.wire.specs.declared.packet.Origin.TheVariants.{Sender, Neighbour}
use Rattle.wire.specs.Cursor.{read_as}
use Rattle.wire.specs.Packets.{segment_bytes, packet_bytes, SegmentLawful, SegmentsLawful, most, PacketLawful, segment_at, segment_fault, segments_in, header_of, header_fault, with_header, packet_in, Header}
use Rattle.wire.proofs.Bytes.{Bytes, two_bytes, bytes_from}
use Rattle.wire.proofs.Pieces.{header_ok, header_read, read_as_ok, Passed, WasRead, was_read, reads_back}

-- the packet with more segments behind its own
abbrev pub with_more : Packet → List Segment → Packet
with_more p ss = with_segments p (p.segments ++ ss)

-- there is room for one segment more
pub longer_fits : (p q : Packet) (s : Segment) → length p.segments < 5 → Some q ≡ longer p s → q ≡ with_more p (s ∷ [])
longer_fits p q s h e = search rules

pub more_behind : (p q : Packet) (s : Segment) → q ≡ with_more p (s ∷ []) →
    (ss : List Segment) → with_more q ss ≡ with_more p (s ∷ ss)
more_behind p q s e ss = ap (λ v. with_more v ss) e ∙ ap (with_segments p) (append_assoc p.segments (s ∷ []) ss)

-- a segment is judged alone
abbrev pub faults : ℕ → Option Segment → Segment → Option ReadFault
faults n last s = segment_fault n s

-- segments without a fault are lawful, and the other way round

fault_lawful : (n : ℕ) (s : Segment) → segment_fault n s ≡ None → SegmentLawful n s
fault_lawful n (Node x) e = search rules
fault_lawful n (Link from to) e = search rules

lawful_fault : (n : ℕ) (s : Segment) → SegmentLawful n s → segment_fault n s ≡ None
lawful_fault n (Node x) h = search rules
lawful_fault n (Link from to) h = search rules

all_lawful : (n : ℕ) (last : Option Segment) (ss : List Segment) → Passed segment_at (faults n) last ss →
    SegmentsLawful n ss
all_lawful n last [] h = tt
all_lawful n last (s ∷ ss) h = (fault_lawful n s h.0, all_lawful n (Some s) ss h.1)

all_passed : (n : ℕ) (last : Option Segment) (ss : List Segment) → SegmentsLawful n ss →
    Passed segment_at (faults n) last ss
all_passed n last [] h = tt
all_passed n last (s ∷ ss) h = (lawful_fault n s h.0, all_passed n (Some s) ss h.1)

-- a segment and the bytes that spell it

segment_back : (s : Segment) (bs : List ℕ) → segment_at (segment_bytes s ++ bs) ≡ Ok (s, bs)
segment_back (Node x) bs = search rules
segment_back (Link from to) bs = search rules

segment_spelled : (bs : List ℕ) (p : Segment × List ℕ) → segment_at bs ≡ Ok p → (segment_bytes p.0 ++ p.1) ≡ bs
segment_spelled bs p e = search rules

-- the header

most_five : (o : Origin) → most o ≤ 5
most_five Sender = omega arith
most_five Neighbour = omega arith

pub header_parts : (o : Origin) (n kind destination count : ℕ) → header_fault o n kind destination count ≡ None →
    (kind ≡ 2) × (destination < n) × (count ≤ most o) × (count ≤ 5)
header_parts o n kind destination count e = search (rules, most_five o)

header_fine : (o : Origin) (n kind destination count : ℕ) → kind ≡ 2 → destination < n → count ≤ most o →
    header_fault o n kind destination count ≡ None
header_fine o n kind destination count k d c = search rules

abbrev fault_of : Origin → ℕ → Header → Option ReadFault
fault_of o n h = header_fault o n h.kind h.destination h.count

five : (bs : List ℕ) → 5 ≤ length bs →
    (get_or bs 0 0 ∷ (get_or bs 1 0 ∷ (get_or bs 2 0 ∷ (get_or bs 3 0 ∷ (get_or bs 4 0 ∷ drop 5 bs))))) ≡ bs
five bs h = search rules

-- the whole packet

pub packet_back : (o : Origin) (n : ℕ) (p : Packet) → PacketLawful o n p → packet_in o n (packet_bytes p) ≡ Ok p
packet_back o n p h =
    let bs = packet_bytes p in
    let m = length bs in
    let more = λ (x : Header) (rest : List ℕ). read_as (with_header x) (segments_in n x.count None m rest) in
    let f = header_fine o n 2 p.destination (length p.segments) refl h.within h.few in
    let passed = all_passed n None p.segments h.segments in
    header_read (fault_of o n) 5 bs (header_of bs) more (omega arith) f ∙
    (ap (read_as (with_header (header_of bs)))
    (reads_back segment_at (faults n) segment_bytes segment_back None m p.segments passed) ∙
    ap (λ l. Ok (record p { hop_limit = l })) (two_bytes p.hop_limit))

abbrev Segments : ℕ → List ℕ → List Segment → Type 0
Segments n bs ss = WasRead segment_at (faults n) segment_bytes (get_or bs 4 0) None (drop 5 bs) ss

packet_written : (n : ℕ) (bs : List ℕ) (ss : List Segment) → Bytes bs → 5 ≤ length bs → get_or bs 0 0 ≡ 2 →
    Segments n bs ss → packet_bytes (with_header (header_of bs) ss) ≡ bs
packet_written n bs ss h l k s =
    let high = div-mul-add (get_or bs 2 0) 256 (get_or bs 3 0) (h 3) in
    let low = mod-mul-add (get_or bs 2 0) 256 (get_or bs 3 0) (h 3) in
    let all = five bs l in
    cc

pub packet_read : (o : Origin) (n : ℕ) (bs : List ℕ) (p : Packet) → Bytes bs → packet_in o n bs ≡ Ok p →
    PacketLawful o n p × (packet_bytes p ≡ bs)
packet_read o n bs p h e =
    let m = length bs in
    let more = λ (x : Header) (rest : List ℕ). read_as (with_header x) (segments_in n x.count None m rest) in
    let w = header_ok (fault_of o n) 5 bs (header_of bs) more p e in
    let t = header_parts o n (get_or bs 0 0) (get_or bs 1 0) (get_or bs 4 0) w.1 in
    let r = read_as_ok (with_header (header_of bs)) (segments_in n (get_or bs 4 0) None m (drop 5 bs)) p w.2 in
    let b = bytes_from 5 bs h in
    let spells = λ (xs : List ℕ) (q : Segment × List ℕ) (_ : Bytes xs) (i : segment_at xs ≡ Ok q). segment_spelled xs q i in
    let s = was_read segment_at (faults n) segment_bytes spells (get_or bs 4 0) None m (drop 5 bs) r.0 b r.1 in
    let few : length r.0 ≤ most o = omega (arith, s.count, t.2) in
    let q = with_header (header_of bs) r.0 in
    let lawful : PacketLawful o n q = record { within = t.1; few = few; segments = all_lawful n None r.0 s.passed } in
    (subst (PacketLawful o n) r.2 lawful, ap packet_bytes (sym r.2) ∙ packet_written n bs r.0 h w.0 t.0 s)
