-- Forwarding, round by round.
use Rattle.std.specs.Prelude.{◌≡◌, ℕ, ◌≤◌, List, [], ◌∷◌, length, Option}
use Rattle.protocol.specs.Packet.{Decision, put_repair, repair_in, towards, by_segments}
use Rattle.protocol.specs.Router.{known_failure, Router}
use Rattle.router.specs.Outcomes.{decision_of}
use Rattle.router.specs.declared.outcome.Outcome.{Outcome}
use Rattle.std.specs.declared.ops.ControlFlow.{ControlFlow}
use Rattle.std.specs.declared.ops.ControlFlow.TheVariants.{Break, Continue}
use Rattle.theory.specs.Repair.{Repair}
use Rattle.types.specs.Packet.{packet_of, with_segments, Packet}
use Rattle.types.specs.Segments.{strip}
use Rattle.types.specs.declared.packet.Packet as code
use Rattle.types.specs.declared.segment.Segment.{Segment}
use Rattle.types.specs.declared.segment.Segment.TheVariants.{Node, Link}

-- what is looked up is the repair that the definition puts, whatever is done then
abbrev pub RepairFound : Router → ℕ → Option Repair → Type 0
RepairFound s aim r =
    (go : List Segment → Decision) (ss : List Segment) → put_repair go ss r ≡ repair_in s go aim ss (known_failure s)

-- the packet p is q, once a repair's two segments are put before ss
pub record Put (p q : Packet) (ss : List Segment) : Type 0 where
  pub a : ℕ
  pub b : ℕ
  pub room : length ss ≤ 3
  pub is : q ≡ with_segments p (Node a ∷ (Link a b ∷ ss))

-- with its segments towards an aim
abbrev pub GoesTowards : Router → Packet → ℕ → ControlFlow Outcome code.Packet → Type 0
GoesTowards s p aim (Break o) = (go : List Segment → Decision) → decision_of o ≡ towards s p go aim p.segments
GoesTowards s p aim (Continue q) =
    Put p (packet_of q) p.segments ×
    ((go : List Segment → Decision) → go (packet_of q).segments ≡ towards s p go aim p.segments)

-- the first segment is not a link
abbrev pub NoLink : List Segment → Type 0
NoLink [] = Unit {0}
NoLink (Node x ∷ ss) = Unit {0}
NoLink (Link a b ∷ ss) = ⊥

-- one round, own segments taken off
abbrev pub IsRound : Router → Packet → ControlFlow Outcome code.Packet → Type 0
IsRound s p (Break o) = (go : List Segment → Decision) → decision_of o ≡ by_segments s p go (strip s.me p.segments)
IsRound s p (Continue q) =
    Put p (packet_of q) (strip s.me p.segments) × NoLink (strip s.me p.segments) ×
    ((go : List Segment → Decision) → go (packet_of q).segments ≡ by_segments s p go (strip s.me p.segments))
