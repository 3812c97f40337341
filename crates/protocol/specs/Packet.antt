-- How a router forwards a packet.
use Rattle.std.specs.Prelude.{◌≡◌, ℕ, zero, suc, ◌+◌, ◌-◌, Bool, false, ◌&&◌, List, [], ◌∷◌, length, Some, None, Option, if◌then◌else◌, ◌==◌, nat_le, nat_lt}
use Rattle.protocol.specs.Router.{entry, known_failure, Router}
use Rattle.theory.specs.Repair.{repair, Repair}
use Rattle.theory.specs.Network.{joins, LinkId}
use Rattle.types.specs.Packet.{Packet}
use Rattle.types.specs.Segments.{strip}
use Rattle.types.specs.declared.fault.DropReason.{DropReason}
use Rattle.types.specs.declared.fault.DropReason.TheVariants.{NoNextHop, NoRepair, TooManySegments, NoHopsLeft, SegmentElsewhere, SegmentLinkDown}
use Rattle.types.specs.declared.segment.Segment.{Segment}
use Rattle.types.specs.declared.segment.Segment.TheVariants.{Node, Link}

-- delivered, sent to a neighbour, or dropped
pub data Decision : Type 0 where
  Deliver : Decision
  Send : ℕ → Packet → Decision
  Drop : DropReason → Decision

abbrev pub down_between : Option LinkId → ℕ → ℕ → Bool
down_between None u v = false
down_between (Some l) u v = joins l u v

-- it knows that the link between u and v is down
abbrev pub known_down : Router → ℕ → ℕ → Bool
known_down s u v = down_between (known_failure s) u v

-- over a link to v, with these segments: one hop less, if one is left
abbrev pub go_over : Packet → ℕ → List Segment → Decision
go_over p v ss =
    if p.hop_limit == 0 then Drop NoHopsLeft
    else Send v (record { destination = p.destination; hop_limit = p.hop_limit - 1; segments = ss })

-- a link segment must begin here, at a link of the list
abbrev pub begins_here : Router → ℕ → ℕ → Bool
begins_here s a b = a == s.me && nat_lt 0 (s.links.cost a b)

-- which is not known to be down; where no hop is left either, that is the answer
abbrev pub over_link : Router → Packet → ℕ → ℕ → List Segment → Decision
over_link s p a b ss =
    if p.hop_limit == 0 then Drop NoHopsLeft
    else (if begins_here s a b then (if known_down s a b then Drop SegmentLinkDown else go_over p b ss)
    else Drop SegmentElsewhere)

-- the repair's two segments are put in front, and the router goes on
abbrev pub put_repair : (List Segment → Decision) → List Segment → Option Repair → Decision
put_repair go ss None = Drop NoRepair
put_repair go ss (Some x) =
    if nat_le (length ss + 2) 5 then go (Node x.p ∷ (Link x.p x.q ∷ ss)) else Drop TooManySegments

abbrev pub repair_in : Router → (List Segment → Decision) → ℕ → List Segment → Option LinkId → Decision
repair_in s go aim ss None = Drop NoRepair
repair_in s go aim ss (Some l) = put_repair go ss (repair s.links l s.me aim)

abbrev pub by_hop : Router → Packet → (List Segment → Decision) → ℕ → List Segment → Option ℕ → Decision
by_hop s p go aim ss None = Drop NoNextHop
by_hop s p go aim ss (Some v) =
    if known_down s s.me v then repair_in s go aim ss (known_failure s) else go_over p v ss

-- to the next hop for the aim, or by a repair where that lies over the link that is down
abbrev pub towards : Router → Packet → (List Segment → Decision) → ℕ → List Segment → Decision
towards s p go aim ss = by_hop s p go aim ss (entry s aim)

abbrev pub by_segments : Router → Packet → (List Segment → Decision) → List Segment → Decision
by_segments s p go [] = if s.me == p.destination then Deliver else towards s p go p.destination []
by_segments s p go (Node x ∷ ss) = towards s p go x (Node x ∷ ss)
by_segments s p go (Link a b ∷ ss) = over_link s p a b ss

-- each repair adds two segments to at most three, so that three rounds are enough
unfoldable pub forward_by : ℕ → Router → Packet → List Segment → Decision
forward_by zero s p ss = Drop TooManySegments
forward_by (suc k) s p ss = by_segments s p (forward_by k s p) (strip s.me ss)

abbrev pub forward : Router → Packet → Decision
forward s p = forward_by 3 s p p.segments

-- more rounds change nothing
abbrev pub ThreeRounds : Type 0
ThreeRounds =
    (k : ℕ) (s : Router) (p : Packet) (ss : List Segment) → forward_by (suc (suc (suc k))) s p ss ≡ forward_by 3 s p ss
