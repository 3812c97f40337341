-- One step of a packet at a router of a given shape.
use Rattle.std.proofs.Common.{◌≡◌, ℕ, suc, ◌+◌, ◌-◌, ◌<◌, ◌≤◌, Bool, true, false, cond, eqb, ltb, leb, List, [], ◌∷◌, length, Some, sym, refl, ap, ◌∙◌, arith}
use Rattle.std.proofs.lemmas.Bool.{both_ways, lt-ltb, le-leb, eq-eqb, ne_eqb, and_from, cond-true, cond-false}
use Rattle.protocol.specs.Delivery.{aim_at, blocked}
use Rattle.protocol.specs.Router.{entry, known_failure, Router}
use Rattle.protocol.specs.Packet.{known_down, go_over, begins_here, over_link, put_repair, repair_in, by_hop, towards, by_segments, forward_by, Decision, Deliver, Send, Drop}
use Rattle.protocol.proofs.Shape.{build, over, knows, me_is, entry_old, down_not, cost_is, Shape, Unaware, Switching, Settled}
use Rattle.theory.specs.Repair.{repair, Repair}
use Rattle.theory.specs.NextHop.{next_hop, at_hop}
use Rattle.theory.specs.Network.{joins, Network, LinkId}
use Rattle.types.specs.Packet.{Packet}
use Rattle.types.specs.Segments.{strip}
use Rattle.types.specs.declared.fault.DropReason.TheVariants.{NoHopsLeft}
use Rattle.types.specs.declared.segment.Segment.{Segment}
use Rattle.types.specs.declared.segment.Segment.TheVariants.{Node, Link}

-- the packet with one hop less
abbrev pub less : Packet → List Segment → Packet
less p ss = record { destination = p.destination; hop_limit = p.hop_limit - 1; segments = ss }

hop_left : (p : Packet) → 0 < p.hop_limit → eqb p.hop_limit 0 ≡ false
hop_left p h = ne_eqb p.hop_limit 0 (λ e. omega arith)

go_over_lem : (p : Packet) (v : ℕ) (ss : List Segment) → 0 < p.hop_limit → go_over p v ss ≡ Send v (less p ss)
go_over_lem p v ss h = cond-false (eqb p.hop_limit 0) (Drop NoHopsLeft) (Send v (less p ss)) (hop_left p h)

module _ (z : Network) (r : LinkId) (G : ℕ → List LinkId) (u : ℕ) (S : Shape) (p : Packet) (go : List Segment → Decision) where
  pub towards_next : (aim v : ℕ) (ts : List Segment) → entry (build z r G u S) aim ≡ Some v → joins r u v ≡ false → 0 < p.hop_limit → towards (build z r G u S) p go aim ts ≡ Send v (less p ts)
  towards_next aim v ts e h pos =
      let s = build z r G u S in
      ap (λ x. by_hop s p go aim ts x) e ∙
      (ap (λ m. cond (known_down s m v) (repair_in s go aim ts (known_failure s)) (go_over p v ts)) (me_is z r G u S) ∙
      (cond-false (known_down s u v) (repair_in s go aim ts (known_failure s)) (go_over p v ts) (down_not z r G u v u S h) ∙
      go_over_lem p v ts pos))

  pub over_link_lem : (a b : ℕ) (ts : List Segment) → a ≡ u → 0 < z.cost a b → joins r a b ≡ false → 0 < p.hop_limit → over_link (build z r G u S) p a b ts ≡ Send b (less p ts)
  over_link_lem a b ts e c h pos =
      let s = build z r G u S in
      let here : begins_here s a b ≡ true =
      and_from (eqb a s.me) (ltb 0 (s.links.cost a b)) (eq-eqb a s.me (e ∙ sym (me_is z r G u S)))
      (lt-ltb 0 (s.links.cost a b) (omega (arith, cost_is z r G a b u S h))) in
      cond-false (eqb p.hop_limit 0) _ _ (hop_left p pos) ∙
      (cond-true (begins_here s a b) _ _ here ∙ (cond-false (known_down s a b) _ _ (down_not z r G a b u S h) ∙ go_over_lem p b ts pos))

-- at the end of the failed link that sends over it
pub towards_repair : (z : Network) (r : LinkId) (G : ℕ → List LinkId) (u : ℕ) (S : Shape) (p : Packet) (go : List Segment → Decision) (aim v : ℕ) (x : Repair) (ts : List Segment) →
    knows S ≡ true → over S aim ≡ false → next_hop z aim u ≡ Some v → joins r u v ≡ true → repair z r u aim ≡ Some x → length ts ≤ 3 →
    towards (build z r G u S) p go aim ts ≡ go (Node x.p ∷ (Link x.p x.q ∷ ts))
towards_repair z r G u (Unaware es) p go aim v x ts k o e h w le = absurd (both_ways false refl k)
towards_repair z r G u (Switching sw pe) p go aim v x ts k o e h w le =
    let s = build z r G u (Switching sw pe) in
    ap (λ y. by_hop s p go aim ts y) (entry_old z r G u aim v (Switching sw pe) o e) ∙
    (cond-true (joins r u v) (put_repair go ts (repair z r u aim)) (go_over p v ts) h ∙
    (ap (λ y. put_repair go ts y) w ∙ cond-true (leb (length ts + 2) 5) _ _ (le-leb (length ts + 2) 5 (omega arith))))
towards_repair z r G u Settled p go aim v x ts k o e h w le = absurd (both_ways true o refl)

pub strip_none : (u : ℕ) → strip u [] ≡ []
unfolding strip
strip_none u = refl

pub strip_other : (u x : ℕ) (ss : List Segment) → (u ≡ x → ⊥) → strip u (Node x ∷ ss) ≡ Node x ∷ ss
unfolding strip
strip_other u x ss h = cond-false (eqb x u) (strip u ss) (Node x ∷ ss) (ne_eqb x u (λ e. h (sym e)))

pub strip_own : (u x : ℕ) (ss : List Segment) → u ≡ x → strip u (Node x ∷ ss) ≡ strip u ss
unfolding strip
strip_own u x ss h = cond-true (eqb x u) (strip u ss) (Node x ∷ ss) (eq-eqb x u (sym h))

pub strip_link : (u a b : ℕ) (ss : List Segment) → strip u (Link a b ∷ ss) ≡ Link a b ∷ ss
unfolding strip
strip_link u a b ss = refl

-- one round of forwarding, once own segments are off
pub forward_on : (k : ℕ) (z : Network) (r : LinkId) (G : ℕ → List LinkId) (u : ℕ) (S : Shape) (p : Packet) (ss ts : List Segment) → strip u ss ≡ ts →
    forward_by (suc k) (build z r G u S) p ss ≡ by_segments (build z r G u S) p (forward_by k (build z r G u S) p) ts
unfolding forward_by
forward_on k z r G u S p ss ts e =
    let s = build z r G u S in
    ap (λ m. by_segments s p (forward_by k s p) (strip m ss)) (me_is z r G u S) ∙ ap (λ l. by_segments s p (forward_by k s p) l) e

-- at the destination
pub at_dest : (z : Network) (r : LinkId) (G : ℕ → List LinkId) (u : ℕ) (S : Shape) (p : Packet) (go : List Segment → Decision) →
    u ≡ p.destination → by_segments (build z r G u S) p go [] ≡ Deliver
at_dest z r G u S p go e =
    let s = build z r G u S in
    cond-true (eqb s.me p.destination) Deliver (towards s p go p.destination []) (eq-eqb s.me p.destination (me_is z r G u S ∙ e))

pub not_at_dest : (z : Network) (r : LinkId) (G : ℕ → List LinkId) (u : ℕ) (S : Shape) (p : Packet) (go : List Segment → Decision) → (u ≡ p.destination → ⊥) →
    by_segments (build z r G u S) p go [] ≡ towards (build z r G u S) p go p.destination []
not_at_dest z r G u S p go ne =
    let s = build z r G u S in
    cond-false (eqb s.me p.destination) Deliver (towards s p go p.destination []) (ne_eqb s.me p.destination (λ e. ne (sym (me_is z r G u S) ∙ e)))

-- is the packet blocked that is left with these segments?
abbrev pub blocked_by : Router → ℕ → ℕ → List Segment → Bool
blocked_by s u d ts = blocked s (aim_at u d ts)

-- a next hop over another link is not blocked
pub open_next : (z : Network) (r : LinkId) (G : ℕ → List LinkId) (u d aim v : ℕ) (S : Shape) (ts : List Segment) → aim_at u d ts ≡ Some aim → entry (build z r G u S) aim ≡ Some v → joins r u v ≡ false → blocked_by (build z r G u S) u d ts ≡ false
open_next z r G u d aim v S ts a e h =
    let s = build z r G u S in
    ap (λ o. blocked s o) a ∙ (ap (λ o. at_hop (λ w. known_down s s.me w) o) e ∙ (ap (λ x. known_down s x v) (me_is z r G u S) ∙ down_not z r G u v u S h))
