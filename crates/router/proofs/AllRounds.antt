-- The rounds of forwarding one after another, and that there is an end to them.
use Rattle.std.proofs.Common.{◌≡◌, ℕ, zero, suc, ◌-◌, ◌<◌, ◌≤◌, cond, eqb, List, [], ◌∷◌, length, Some, None, Option, refl, ap, ◌∙◌, inl, inr, arith}
use mathlib.Core.Path.{fun_ext}
use Rattle.std.proofs.lemmas.Bool.{cases_eq}
use Rattle.protocol.specs.Router.{Router, entry}
use Rattle.protocol.specs.Packet.{Decision, Deliver, by_hop, by_segments, forward_by, forward}
use Rattle.protocol.proofs.Forwarding.{strip_other, strip_own, strip_link}
use Rattle.protocol.proofs.Rounds.{three_rounds}
use Rattle.types.specs.Packet.{Packet, with_segments}
use Rattle.types.specs.Segments.{strip}
use Rattle.types.specs.declared.segment.Segment.{Segment}
use Rattle.types.specs.declared.segment.Segment.TheVariants.{Node, Link}
use Rattle.router.specs.Rounds.{Put, NoLink}

round_same : (s : Router) (p : Packet) (us : List Segment) (go on : List Segment → Decision) → go ≡ on → (ts : List Segment) → by_segments s (with_segments p us) go ts ≡ by_segments s p on ts
round_same s p us go on e [] = ap (λ f. by_segments s (with_segments p us) f []) e ∙ ap (λ x. cond (eqb s.me p.destination) Deliver x) (by (entry s p.destination))
  where
    by : (o : Option ℕ) → by_hop s (with_segments p us) on p.destination [] o ≡ by_hop s p on p.destination [] o
    by None = refl
    by (Some v) = refl
round_same s p us go on e (Node x ∷ ts) = ap (λ f. by_segments s (with_segments p us) f (Node x ∷ ts)) e ∙ by (entry s x)
  where
    by : (o : Option ℕ) → by_hop s (with_segments p us) on x (Node x ∷ ts) o ≡ by_hop s p on x (Node x ∷ ts) o
    by None = refl
    by (Some v) = refl
round_same s p us go on e (Link a b ∷ ts) = refl

-- the segments that a packet has don't matter where others are given
rounds_same : (k : ℕ) (s : Router) (p : Packet) (us ss : List Segment) → forward_by k s (with_segments p us) ss ≡ forward_by k s p ss
unfolding forward_by
rounds_same zero s p us ss = refl
rounds_same (suc k) s p us ss = round_same s p us (forward_by k s (with_segments p us)) (forward_by k s p) (fun_ext (λ ts. rounds_same k s p us ts)) (strip s.me ss)

-- the last round
pub rounds_end : (s : Router) (p : Packet) (d : Decision) → ((go : List Segment → Decision) → d ≡ by_segments s p go (strip s.me p.segments)) → d ≡ forward s p
unfolding forward_by
rounds_end s p d h = h (forward_by 2 s p)

-- a round after which a repair is put
pub rounds_on : (s : Router) (p q : Packet) (d : Decision) (ts : List Segment) → Put p q ts → ((go : List Segment → Decision) → go q.segments ≡ by_segments s p go (strip s.me p.segments)) → d ≡ forward s q → d ≡ forward s p
unfolding forward_by
rounds_on s p q d ts u h e =
    let us = Node u.a ∷ (Link u.a u.b ∷ ts) in
    let i : forward s q ≡ forward_by 3 s p q.segments = ap (λ x. forward_by 3 s x q.segments) u.is ∙ rounds_same 3 s p us q.segments in
    e ∙ (i ∙ (h (forward_by 3 s p) ∙ three_rounds 1 s p p.segments))

-- how many more segments might be put
abbrev rank : List Segment → ℕ
rank [] = 6
rank (Node x ∷ ss) = 5 - length ss
rank (Link a b ∷ ss) = 0

abbrev pub left : ℕ → Packet → ℕ
left u p = rank (strip u p.segments)

rank_falls : (u a b : ℕ) (ts : List Segment) → NoLink ts → length ts ≤ 3 → rank (strip u (Node a ∷ (Link a b ∷ ts))) < rank ts
rank_falls u a b ts n h = elim (cases_eq u a) [
  | inl e ↦ rw (strip_own u a (Link a b ∷ ts) e, strip_link u a b ts) (some ts n h)
  | inr e ↦ rw (strip_other u a (Link a b ∷ ts) e) (fewer ts n h)
]
  where
    some : (ts : List Segment) → NoLink ts → length ts ≤ 3 → 0 < rank ts
    some [] n h = omega arith
    some (Node x ∷ ts) n h = omega arith
    some (Link x y ∷ ts) n h = absurd n

    fewer : (ts : List Segment) → NoLink ts → length ts ≤ 3 → 5 - length (Link a b ∷ ts) < rank ts
    fewer [] n h = omega arith
    fewer (Node x ∷ ts) n h = omega arith
    fewer (Link x y ∷ ts) n h = absurd n

pub left_falls : (u : ℕ) (p q : Packet) → Put p q (strip u p.segments) → NoLink (strip u p.segments) → left u q < left u p
left_falls u p q h n = rw (ap (λ (x : Packet). x.segments) h.is) (rank_falls u h.a h.b (strip u p.segments) n h.room)
