-- Three rounds of forwarding are enough, since a repair is put only where at most three segments are left.
use Rattle.std.proofs.Common.{◌≡◌, ℕ, suc, ◌+◌, ◌≤◌, Bool, true, false, cond, eqb, leb, List, [], ◌∷◌, length, Some, None, Option, sym, refl, ap, ◌∙◌, inl, inr, arith}
use Rattle.std.proofs.lemmas.Bool.{leb-true, cases_eq}
use Rattle.protocol.specs.Router.{entry, known_failure, Router}
use Rattle.protocol.specs.Packet.{known_down, go_over, put_repair, repair_in, by_hop, by_segments, forward_by, ThreeRounds, Decision, Deliver, Drop}
use Rattle.protocol.proofs.Forwarding.{strip_other, strip_own, strip_link}
use Rattle.theory.specs.Repair.{repair, Repair}
use Rattle.theory.specs.Network.{LinkId}
use Rattle.types.specs.Packet.{Packet}
use Rattle.types.specs.Segments.{strip}
use Rattle.types.specs.declared.fault.DropReason.TheVariants.{TooManySegments}
use Rattle.types.specs.declared.segment.Segment.{Segment}
use Rattle.types.specs.declared.segment.Segment.TheVariants.{Node, Link}

-- a repair's two segments in front
abbrev over : ℕ → ℕ → List Segment → List Segment
over a b ts = Node a ∷ (Link a b ∷ ts)

-- the two go on alike when a repair is put
abbrev Alike : (List Segment → Decision) → (List Segment → Decision) → List Segment → Type 0
Alike go on ts = length ts ≤ 3 → (a b : ℕ) → go (over a b ts) ≡ on (over a b ts)

round_as : (s : Router) (p : Packet) (go on : List Segment → Decision) (ts : List Segment) → Alike go on ts → by_segments s p go ts ≡ by_segments s p on ts
round_as s p go on ts h = by ts h
  where
    put : (ts : List Segment) → Alike go on ts → (x : Option Repair) → put_repair go ts x ≡ put_repair on ts x
    put ts h None = refl
    put ts h (Some x) = few (leb (length ts + 2) 5) refl
      where
        few : (b : Bool) → leb (length ts + 2) 5 ≡ b →
            cond b (go (over x.p x.q ts)) (Drop TooManySegments) ≡ cond b (on (over x.p x.q ts)) (Drop TooManySegments)
        few true e = h (omega (arith, leb-true (length ts + 2) 5 e)) x.p x.q
        few false e = refl

    down : (f : Option LinkId) (aim : ℕ) (ts : List Segment) → Alike go on ts → repair_in s go aim ts f ≡ repair_in s on aim ts f
    down None aim ts h = refl
    down (Some l) aim ts h = put ts h (repair s.links l s.me aim)

    hop : (aim : ℕ) (ts : List Segment) → Alike go on ts → (o : Option ℕ) → by_hop s p go aim ts o ≡ by_hop s p on aim ts o
    hop aim ts h None = refl
    hop aim ts h (Some v) = ap (λ D. cond (known_down s s.me v) D (go_over p v ts)) (down (known_failure s) aim ts h)

    by : (ts : List Segment) → Alike go on ts → by_segments s p go ts ≡ by_segments s p on ts
    by [] h = ap (λ D. cond (eqb s.me p.destination) Deliver D) (hop p.destination [] h (entry s p.destination))
    by (Node x ∷ ts) h = hop x (Node x ∷ ts) h (entry s x)
    by (Link a b ∷ ts) h = refl

-- after a repair, the next round ends at the link segment, or has two segments more
after_repair : (i j : ℕ) (s : Router) (p : Packet) (a b : ℕ) (ts : List Segment) →
    (length ts ≤ 1 → (c d : ℕ) → forward_by i s p (over c d (over a b ts)) ≡ forward_by j s p (over c d (over a b ts))) →
    forward_by (suc i) s p (over a b ts) ≡ forward_by (suc j) s p (over a b ts)
unfolding forward_by
after_repair i j s p a b ts h = elim (cases_eq s.me a) [
  | inl e ↦
      let off = strip_own s.me a (Link a b ∷ ts) e ∙ strip_link s.me a b ts in
      ap (by_segments s p (forward_by i s p)) off ∙ sym (ap (by_segments s p (forward_by j s p)) off)
  | inr e ↦
      let off = strip_other s.me a (Link a b ∷ ts) e in
      ap (by_segments s p (forward_by i s p)) off ∙
      (round_as s p (forward_by i s p) (forward_by j s p) (over a b ts) (λ le c d. h (omega arith) c d) ∙
      sym (ap (by_segments s p (forward_by j s p)) off))
]

two_repairs : (i j : ℕ) (s : Router) (p : Packet) (a b : ℕ) (ts : List Segment) → 2 ≤ length ts →
    forward_by (suc i) s p (over a b ts) ≡ forward_by (suc j) s p (over a b ts)
two_repairs i j s p a b ts le = after_repair i j s p a b ts (λ few. absurd (omega arith))

one_repair : (i j : ℕ) (s : Router) (p : Packet) (a b : ℕ) (ts : List Segment) →
    forward_by (suc (suc i)) s p (over a b ts) ≡ forward_by (suc (suc j)) s p (over a b ts)
one_repair i j s p a b ts = after_repair (suc i) (suc j) s p a b ts (λ few c d. two_repairs i j s p c d (over a b ts) (omega arith))

pub three_rounds : ThreeRounds
unfolding forward_by
three_rounds k s p ss = round_as s p (forward_by (suc (suc k)) s p) (forward_by 2 s p) (strip s.me ss) (λ few a b. one_repair k 0 s p a b (strip s.me ss))
