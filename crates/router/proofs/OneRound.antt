-- One round of forwarding.
use Rattle.std.proofs.Common.{◌≡◌, ℕ, ◌<◌, ◌≤◌, eqb, List, [], ◌∷◌, length, get_or, Some, None, Option, sym, refl, ap, ◌∙◌, arith}
use Rattle.std.proofs.lemmas.Bool.{cond-false, ne_eqb}
use Rattle.protocol.specs.Router.{Router, entry}
use Rattle.protocol.specs.Packet.{Decision, Deliver, by_hop, towards, by_segments}
use Rattle.types.specs.Packet.{Packet, with_segments, stripped}
use Rattle.types.specs.Segments.{first_of, strip}
use Rattle.types.specs.declared.segment.Segment.{Segment}
use Rattle.types.specs.declared.segment.Segment.TheVariants.{Node, Link}
use Rattle.router.specs.Rounds.{GoesTowards, NoLink, IsRound}
use Rattle.types.specs.declared.packet.Packet as packets
use Rattle.std.specs.declared.ops.ControlFlow.{ControlFlow}
use Rattle.std.specs.declared.ops.ControlFlow.TheVariants.{Break, Continue}
use Rattle.router.specs.declared.outcome.Outcome.{Outcome}

-- the segments that a packet has don't matter where others are given
towards_same : (s : Router) (p : Packet) (ts : List Segment) (go : List Segment → Decision) (aim : ℕ) (ss : List Segment) → towards s (with_segments p ts) go aim ss ≡ towards s p go aim ss
towards_same s p ts go aim ss = by (entry s aim)
  where
    by : (o : Option ℕ) → by_hop s (with_segments p ts) go aim ss o ≡ by_hop s p go aim ss o
    by None = refl
    by (Some v) = refl

-- towards an aim, once own segments are off
goes_on : (s : Router) (p : Packet) (aim : ℕ) (ts : List Segment) → NoLink ts → ((go : List Segment → Decision) → towards s p go aim ts ≡ by_segments s p go ts) → ts ≡ strip s.me p.segments →
    (r : ControlFlow Outcome packets.Packet) → GoesTowards s (with_segments p ts) aim r → IsRound s p r
goes_on s p aim ts n e i (Break o) h = λ go. h go ∙ (towards_same s p ts go aim ts ∙ (e go ∙ ap (by_segments s p go) i))
goes_on s p aim ts n e i (Continue q) h = rw (← i) (
  record { a = h.0.a; b = h.0.b; room = h.0.room; is = h.0.is },
  n,
  λ go. h.1 go ∙ (towards_same s p ts go aim ts ∙ e go),
)

round_node : (s : Router) (p q : Packet) (x : ℕ) (r : ControlFlow Outcome packets.Packet) → q ≡ stripped s.me p → Some (Node x) ≡ first_of q.segments → GoesTowards s q x r → IsRound s p r
round_node s p q x r i f h = by (strip s.me p.segments) refl (f ∙ ap (λ (y : Packet). first_of y.segments) i) (rw i at h)
  where
    by : (ts : List Segment) → ts ≡ strip s.me p.segments → Some (Node x) ≡ first_of ts → GoesTowards s (with_segments p ts) x r → IsRound s p r
    by [] e f h = let z : ◌≡◌ {A = ℕ} 0 1 = cc in absurd (omega arith)
    by (Node y ∷ ts) e f h = goes_on s p x (Node y ∷ ts) tt (λ go. let k : x ≡ y = cc in ap (λ v. towards s p go v (Node y ∷ ts)) k) e r h
    by (Link a b ∷ ts) e f h = let z : ◌≡◌ {A = ℕ} 0 1 = cc in absurd (omega arith)

round_dest : (s : Router) (p q : Packet) (d e : ℕ) (r : ControlFlow Outcome packets.Packet) → q ≡ stripped s.me p → None ≡ first_of q.segments → d ≡ q.destination → e ≡ q.destination → (d ≡ s.me → ⊥) → GoesTowards s q e r → IsRound s p r
round_dest s p q d e r i f x y n h =
    let k : e ≡ p.destination = y ∙ ap (λ (z : Packet). z.destination) i in
    by (strip s.me p.segments) refl (f ∙ ap (λ (z : Packet). first_of z.segments) i) (rw (i, k) at h)
  where
    by : (ts : List Segment) → ts ≡ strip s.me p.segments → None ≡ first_of ts → GoesTowards s (with_segments p ts) p.destination r → IsRound s p r
    by [] w f h =
        goes_on s p p.destination [] tt
        (λ go. sym (cond-false (eqb s.me p.destination) Deliver (towards s p go p.destination []) (ne_eqb s.me p.destination (λ k. n (x ∙ (ap (λ (z : Packet). z.destination) i ∙ sym k))))))
        w r h
    by (Node y ∷ ts) w f h = let z : ◌≡◌ {A = ℕ} 0 1 = cc in absurd (omega arith)
    by (Link a b ∷ ts) w f h = let z : ◌≡◌ {A = ℕ} 0 1 = cc in absurd (omega arith)

-- the first of a list that is not empty
first_is : (ss : List Segment) (y z : Segment) → 1 ≤ length ss → y ≡ get_or ss 0 z → Some y ≡ first_of ss
first_is [] y z n h = absurd (omega arith)
first_is (s ∷ ss) y z n h = ap Some h

-- and of one that is
first_none : (ss : List Segment) → length ss < 1 → None ≡ first_of ss
first_none [] n = refl
first_none (s ∷ ss) n = absurd (omega arith)

pub round_to_node : (s : Router) (p q : Packet) (x : ℕ) (r : ControlFlow Outcome packets.Packet) (ss : List Segment) (z : Segment) → q ≡ stripped s.me p → ss ≡ q.segments → 1 ≤ length ss → Node x ≡ get_or ss 0 z → GoesTowards s q x r → IsRound s p r
round_to_node s p q x r ss z i e n h g = round_node s p q x r i (first_is ss (Node x) z n h ∙ ap first_of e) g

pub round_to_destination : (s : Router) (p q : Packet) (d e : ℕ) (r : ControlFlow Outcome packets.Packet) (ss : List Segment) → q ≡ stripped s.me p → ss ≡ q.segments → length ss < 1 → d ≡ q.destination → e ≡ q.destination → (d ≡ s.me → ⊥) → GoesTowards s q e r → IsRound s p r
round_to_destination s p q d e r ss i j n x y k g = round_dest s p q d e r i (first_none ss n ∙ ap first_of j) x y k g
