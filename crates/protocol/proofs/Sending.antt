-- What is known of a packet that a router sends: it has a hop less, and goes to a neighbour.
use Rattle.std.proofs.Common.{◌≡◌, ℕ, zero, suc, ◌+◌, ◌-◌, ◌<◌, Bool, true, false, cond, eqb, leb, ltb, List, [], ◌∷◌, length, Some, None, Option, refl, subst, arith}
use Rattle.std.proofs.lemmas.Bool.{eqb-true, eqb-false, ltb-true, and_parts}
use Rattle.theory.specs.Network.{without, LinkId}
use Rattle.theory.specs.NextHop.{next_hop}
use Rattle.theory.specs.Repair.{repair, Repair}
use Rattle.theory.proofs.NextHops.{next_hop_is}
use Rattle.theory.proofs.Without.{link_kept}
use Rattle.protocol.specs.Router.{links_in, entry, known_failure, Router, Transition}
use Rattle.protocol.specs.Packet.{Decision, Deliver, Send, Drop, known_down, go_over, begins_here, put_repair, repair_in, over_link, by_hop, towards, by_segments, forward_by, forward}
use Rattle.types.specs.Packet.{Packet}
use Rattle.types.specs.Segments.{strip}
use Rattle.types.specs.declared.fault.DropReason.{DropReason}
use Rattle.types.specs.declared.fault.DropReason.TheVariants.{NoNextHop, NoRepair, TooManySegments, NoHopsLeft, SegmentElsewhere, SegmentLinkDown}
use Rattle.types.specs.declared.segment.Segment.{Segment}
use Rattle.types.specs.declared.segment.Segment.TheVariants.{Node, Link}

pub record Sends (s : Router) (p : Packet) (v : ℕ) (q : Packet) : Type 0 where
  pub fewer : suc q.hop_limit ≡ p.hop_limit
  pub neighbour : 0 < s.links.cost s.me v

-- what is dropped is not sent
not_sent : {A : Type 0} (x : DropReason) (v : ℕ) (q : Packet) → Drop x ≡ Send v q → A
not_sent x v q e = absurd (cc)

over : (s : Router) (p : Packet) (u v : ℕ) (q : Packet) (ss : List Segment) → 0 < s.links.cost s.me u → go_over p u ss ≡ Send v q → Sends s p v q
over s p u v q ss near = by (eqb p.hop_limit 0) refl
  where
    less : Packet
    less = record { destination = p.destination; hop_limit = p.hop_limit - 1; segments = ss }

    by : (b : Bool) → eqb p.hop_limit 0 ≡ b → cond b (Drop NoHopsLeft) (Send u less) ≡ Send v q → Sends s p v q
    by true t e = not_sent NoHopsLeft v q e
    by false t e =
        let i : p.hop_limit - 1 ≡ q.hop_limit = cc in
        let k : u ≡ v = cc in
        record { fewer = omega (arith, eqb-false p.hop_limit 0 t); neighbour = subst (λ x. 0 < s.links.cost s.me x) k near }

-- a next hop is a neighbour
entry_near : (s : Router) (aim u : ℕ) → entry s aim ≡ Some u → 0 < s.links.cost s.me u
entry_near s aim u = by s.transition
  where
    by : (o : Option Transition) → next_hop (links_in s.links aim o) aim s.me ≡ Some u → 0 < s.links.cost s.me u
    by None h = (next_hop_is s.links aim s.me u h).near.link
    by (Some t) h = either (t.switched aim) h
      where
        either : (b : Bool) → next_hop (cond b (without t.link s.links) s.links) aim s.me ≡ Some u → 0 < s.links.cost s.me u
        either true h = link_kept t.link s.links s.me u (next_hop_is (without t.link s.links) aim s.me u h).near.link
        either false h = (next_hop_is s.links aim s.me u h).near.link

-- one round sends so, if those after it do
round_sends : (s : Router) (p : Packet) (go : List Segment → Decision) (v : ℕ) (q : Packet) → ((ts : List Segment) → go ts ≡ Send v q → Sends s p v q) → (ss : List Segment) → by_segments s p go ss ≡ Send v q → Sends s p v q
round_sends s p go v q more ss = by ss
  where
    put : (ts : List Segment) (o : Option Repair) → put_repair go ts o ≡ Send v q → Sends s p v q
    put ts None e = not_sent NoRepair v q e
    put ts (Some x) e = either (leb (length ts + 2) 5) e
      where
        either : (b : Bool) → cond b (go (Node x.p ∷ (Link x.p x.q ∷ ts))) (Drop TooManySegments) ≡ Send v q → Sends s p v q
        either true e = more _ e
        either false e = not_sent TooManySegments v q e

    repaired : (aim : ℕ) (ts : List Segment) (f : Option LinkId) → repair_in s go aim ts f ≡ Send v q → Sends s p v q
    repaired aim ts None e = not_sent NoRepair v q e
    repaired aim ts (Some l) e = put ts (repair s.links l s.me aim) e

    hop : (aim : ℕ) (ts : List Segment) (o : Option ℕ) → entry s aim ≡ o → by_hop s p go aim ts o ≡ Send v q → Sends s p v q
    hop aim ts None h e = not_sent NoNextHop v q e
    hop aim ts (Some u) h e = either (known_down s s.me u) e
      where
        either : (b : Bool) → cond b (repair_in s go aim ts (known_failure s)) (go_over p u ts) ≡ Send v q → Sends s p v q
        either true e = repaired aim ts (known_failure s) e
        either false e = over s p u v q ts (entry_near s aim u h) e

    link : (a b : ℕ) (ts : List Segment) → over_link s p a b ts ≡ Send v q → Sends s p v q
    link a b ts = left (eqb p.hop_limit 0) (begins_here s a b) refl (known_down s a b)
      where
        left : (none here : Bool) → begins_here s a b ≡ here → (down : Bool) →
            cond none (Drop NoHopsLeft) (cond here (cond down (Drop SegmentLinkDown) (go_over p b ts)) (Drop SegmentElsewhere)) ≡ Send v q → Sends s p v q
        left true here t down e = not_sent NoHopsLeft v q e
        left false false t down e = not_sent SegmentElsewhere v q e
        left false true t true e = not_sent SegmentLinkDown v q e
        left false true t false e =
            let k = and_parts (eqb a s.me) (ltb 0 (s.links.cost a b)) t in
            over s p b v q ts (subst (λ x. 0 < s.links.cost x b) (eqb-true a s.me k.0) (ltb-true 0 (s.links.cost a b) k.1)) e

    by : (ss : List Segment) → by_segments s p go ss ≡ Send v q → Sends s p v q
    by [] e = either (eqb s.me p.destination) e
      where
        either : (b : Bool) → cond b Deliver (towards s p go p.destination []) ≡ Send v q → Sends s p v q
        either true e = absurd (cc)
        either false e = hop p.destination [] (entry s p.destination) refl e
    by (Node x ∷ ts) e = hop x (Node x ∷ ts) (entry s x) refl e
    by (Link a b ∷ ts) e = link a b ts e

rounds_send : (k : ℕ) (s : Router) (p : Packet) (v : ℕ) (q : Packet) (ss : List Segment) → forward_by k s p ss ≡ Send v q → Sends s p v q
unfolding forward_by
rounds_send zero s p v q ss e = not_sent TooManySegments v q e
rounds_send (suc k) s p v q ss e = round_sends s p (forward_by k s p) v q (rounds_send k s p v q) (strip s.me ss) e

pub forward_sends : (s : Router) (p : Packet) (v : ℕ) (q : Packet) → forward s p ≡ Send v q → Sends s p v q
forward_sends s p v q e = rounds_send 3 s p v q p.segments e
