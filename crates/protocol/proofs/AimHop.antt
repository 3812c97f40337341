-- One hop of a packet on its way to its aim: what it costs, and whether a repair is put.
use Rattle.std.proofs.Common.{◌≡◌, ℕ, suc, ◌+◌, ◌-◌, ◌<◌, ◌≤◌, Bool, true, false, eqb, ◌⊎◌, List, [], ◌∷◌, length, Some, None, Option, sym, refl, ap, ◌∙◌, subst, inl, inr, arith}
use Rattle.std.proofs.lemmas.Bool.{both_ways, eq-eqb, ne_eqb, cases_eq, cases_Bool, cond-true, cond-false, cond_both}
use Rattle.protocol.specs.Delivery.{aim_at, blocked}
use Rattle.protocol.specs.Failed.{Done}
use Rattle.protocol.specs.Order.{InOrder}
use Rattle.protocol.specs.System.{count_if}
use Rattle.protocol.specs.Router.{entry}
use Rattle.protocol.specs.Costs.{Aims}
use Rattle.protocol.specs.Packet.{towards, by_segments, forward_by, Decision, Deliver, Send}
use Rattle.protocol.proofs.Forwarding.{less, towards_repair, strip_none, strip_other, strip_own, strip_link, forward_on, at_dest, not_at_dest, blocked_by, open_next, towards_next, over_link_lem}
use Rattle.protocol.proofs.Touched.{uses_hop, uses_elsewhere, uses_on, by_use, only_end, left_on, steady}
use Rattle.protocol.proofs.Shape.{build, over, knows, entry_is, entry_new, entry_old, entry_steady, Shape}
use Rattle.protocol.proofs.Enough.{Grows}
use Rattle.theory.specs.NextHop.{next_hop, uses}
use Rattle.theory.specs.Distance.{distance}
use Rattle.theory.specs.Network.{joins, without, Network, Lawful, LinkId}
use Rattle.theory.proofs.DistanceLaws.{distance_self}
use Rattle.theory.proofs.Repairs.{repaired}
use Rattle.theory.proofs.NextHops.{next_hop_is, next_hop_where}
use Rattle.theory.proofs.Without.{cost_left, link_left_lem, link_kept, lawful_without, untouched}
use Rattle.theory.proofs.Using.{same_some, second_link}
use Rattle.theory.proofs.Paths.{some_inj, none_some}
use Rattle.types.specs.Packet.{Packet}
use Rattle.types.specs.Segments.{strip}
use Rattle.types.specs.declared.segment.Segment.{Segment}
use Rattle.types.specs.declared.segment.Segment.TheVariants.{Node, Link}

abbrev pub pack : ℕ → ℕ → List Segment → Packet
pack d h ts = record { destination = d; hop_limit = h; segments = ts }

-- u's path to x uses the link; it goes up to the end s, and on by the distance that is left. Where u is not s, P says that nobody has switched for x
pub record Climbs (z : Network) (r : LinkId) (P : Type 0) (x u R : ℕ) : Type 0 where
  pub s : ℕ
  pub e : ℕ
  pub q : ℕ
  pub c : ℕ
  pub t : ℕ
  pub sends : next_hop z x s ≡ Some e
  pub link : joins r s e ≡ true
  pub old : distance z x s ≡ Some q
  pub left : distance (without r z) x s ≡ Some c
  pub at : (u ≡ s) ⊎ P
  pub here : distance z x u ≡ Some t
  pub sum : R + q ≡ t + c

-- u is on a repair: to p, over the link p-q, and on by a path that does not use the link
pub record Aside (z : Network) (r : LinkId) (x : ℕ) (tl : List Segment) (u : ℕ) (ts : List Segment) (R : ℕ) : Type 0 where
  pub p : ℕ
  pub q : ℕ
  pub a : ℕ
  pub b : ℕ
  pub is : ts ≡ Node p ∷ (Link p q ∷ tl)
  pub to_p : distance z p u ≡ Some a
  pub clear_to : uses z r p u ≡ false
  pub link : 0 < z.cost p q
  pub clear_over : joins r p q ≡ false
  pub from_q : distance z x q ≡ Some b
  pub clear_from : uses z r x q ≡ false
  pub sum : R ≡ a + z.cost p q + b

-- A packet at u with the segments ts, until it is at x with the segments tl: it has R to spend, where that is known, and at most n repairs are put on it.
-- Its path uses the link; it is on a repair; its path does not use the link; or all have switched whose paths do.
pub data Rem (z : Network) (r : LinkId) (f : Done) (P : Type 0) (x : ℕ) (tl : List Segment) (n u : ℕ) (ts : List Segment) (R : Option ℕ) : Type 0 where
  touched : (c : ℕ) → ts ≡ tl → 1 ≤ n → uses z r x u ≡ true → distance (without r z) x u ≡ Some c → ((a : ℕ) → R ≡ Some a → Climbs z r P x u a) → Rem z r f P x tl n u ts R
  aside : (a : ℕ) → R ≡ Some a → Aside z r x tl u ts a → Rem z r f P x tl n u ts R
  steadily : (a : ℕ) → R ≡ Some a → ts ≡ tl → uses z r x u ≡ false → distance z x u ≡ Some a → Rem z r f P x tl n u ts R
  newly : (a : ℕ) → R ≡ Some a → ts ≡ tl → ((v : ℕ) → uses z r x v ≡ true → f x v ≡ true) → distance (without r z) x u ≡ Some a → Rem z r f P x tl n u ts R

pub rem_more : {z : Network} {r : LinkId} {f g : Done} {P : Type 0} {x : ℕ} {tl : List Segment} {n u : ℕ} {ts : List Segment} {R : Option ℕ} → Grows f g → Rem z r f P x tl n u ts R → Rem z r g P x tl n u ts R
rem_more more (touched c e l t q w) = touched c e l t q w
rem_more more (aside a k w) = aside a k w
rem_more more (steadily a k e n h) = steadily a k e n h
rem_more {x = x} more (newly a k e all h) = newly a k e (λ v t. more x v (all v t)) h

-- at its aim it has nothing to spend
pub rem_here : {z : Network} {r : LinkId} {f : Done} {P : Type 0} {x : ℕ} {tl ts : List Segment} {n : ℕ} {R : Option ℕ} → Lawful z → ts ≡ tl → (c : ℕ) → R ≡ Some c → Rem z r f P x tl n x ts R → c ≡ 0
rem_here {z} {r} {x = x} g w c k (touched d e l t q i) = absurd (uses_elsewhere z r x x t refl)
rem_here {z} g w c k (aside a i y) = absurd (omega (arith, ap (λ (l : List Segment). length l) (sym y.is ∙ w)))
rem_here {z} {x = x} {R = R} g w c k (steadily a i e n h) = same_some R c a k i ∙ same_some (distance z x x) a 0 h (distance_self z g x)
rem_here {z} {r} {x = x} {R = R} g w c k (newly a i e all h) = same_some R c a k i ∙ same_some (distance (without r z) x x) a 0 h (distance_self (without r z) (lawful_without r z g) x)

-- over a link of the cost c, what is to be spent falls by c, where it is known
abbrev pub Falls : Option ℕ → ℕ → Option ℕ → Type 0
Falls R c R' = (a : ℕ) → R ≡ Some a → (b : ℕ) × (R' ≡ Some b) × (a ≡ c + b)

falls_to : (R : Option ℕ) (a b c : ℕ) → R ≡ Some a → a ≡ c + b → Falls R c (Some b)
falls_to R a b c k e i j = (b, refl, same_some R i a j k ∙ e)

-- what comes next: it is delivered, or sent on
pub data AimNext (z : Network) (r : LinkId) (f : Done) (P : Type 0) (d x : ℕ) (tl : List Segment) (n u h : ℕ) (R : Option ℕ) (D : Decision) : Type 0 where
  is_delivered : ((a : ℕ) → R ≡ Some a → a ≡ 0) → D ≡ Deliver → AimNext z r f P d x tl n u h R D
  is_sent : (v : ℕ) (us : List Segment) (R' : Option ℕ) → joins r u v ≡ false → D ≡ Send v (pack d (h - 1) us) → Falls R (z.cost u v) R' → Rem z r f P x tl n v us R' → AimNext z r f P d x tl n u h R D

-- by another round, where the same is to be spent
next_as : {z : Network} {r : LinkId} {f : Done} {P : Type 0} {d x : ℕ} {tl : List Segment} {n u h : ℕ} {R Q : Option ℕ} {D E : Decision} → E ≡ D → ((a : ℕ) → R ≡ Some a → Q ≡ Some a) → AimNext z r f P d x tl n u h Q D → AimNext z r f P d x tl n u h R E
next_as e same (is_delivered o k) = is_delivered (λ a i. o a (same a i)) (e ∙ k)
next_as e same (is_sent v vs R' j k o m) = is_sent v vs R' j (e ∙ k) (λ a i. o a (same a i)) m

-- with one repair less where the router puts one; or the packet was at its aim with segments, and leaves
pub data AimHopped (z : Network) (r : LinkId) (f : Done) (P : Type 0) (d x : ℕ) (tl : List Segment) (n u h : ℕ) (ts : List Segment) (R : Option ℕ) (blocks : Bool) (D : Decision) : Type 0 where
  goes_on : (n' : ℕ) → count_if blocks n' ≤ n → AimNext z r f P d x tl n' u h R D → AimHopped z r f P d x tl n u h ts R blocks D
  leaves : (tl ≡ [] → ⊥) → u ≡ x → ts ≡ tl → AimHopped z r f P d x tl n u h ts R blocks D

freely : {z : Network} {r : LinkId} {f : Done} {P : Type 0} {d x : ℕ} {tl : List Segment} {n u h : ℕ} {ts : List Segment} {R : Option ℕ} {blocks : Bool} {D : Decision} → blocks ≡ false → AimNext z r f P d x tl n u h R D → AimHopped z r f P d x tl n u h ts R blocks D
freely {n = n} e w = goes_on n (subst (λ (b : Bool). count_if b n ≤ n) (sym e) (omega arith)) w

cons_nil : (y : Segment) (ys : List Segment) → (y ∷ ys) ≡ [] → ⊥
cons_nil y ys e = omega (arith, ap (λ (l : List Segment). length l) e)

-- elsewhere than at the aim nothing is taken off
aim_strip : (d x u : ℕ) (tl : List Segment) → Aims d tl x → (u ≡ x → ⊥) → (strip u tl ≡ tl) × (aim_at u d tl ≡ Some x)
aim_strip d x u [] a ne = (strip_none u, cond-false (eqb u d) None (Some d) (ne_eqb u d (λ e. ne (e ∙ a))) ∙ ap Some a)
aim_strip d x u (Node y ∷ us) a ne = (strip_other u y us (λ e. ne (e ∙ a)), ap Some a)
aim_strip d x u (Link y v ∷ us) a ne = absurd a

module _ (z : Network) (g : Lawful z) (r : LinkId) (G : ℕ → List LinkId) (f : Done) (order : InOrder z r f) (P : Type 0) (d x : ℕ) (tl : List Segment) (aims : Aims d tl x) (few : length tl ≤ 3) (N : P → (v : ℕ) → f x v ≡ false)
    (u h : ℕ) (pos : 0 < h) (S : Shape) (is : (e : ℕ) → over S e ≡ f e u) (ends : (v : ℕ) → joins r u v ≡ true → knows S ≡ true) where
  -- when the end s has switched, all have that send over the link
  root : (s e : ℕ) → next_hop z x s ≡ Some e → joins r s e ≡ true → f x s ≡ true → (v : ℕ) → uses z r x v ≡ true → f x v ≡ true
  root s e sd jo y =
      by_use z g r x (λ v. f x v ≡ true) (λ a v p j. subst (λ b. f x b ≡ true) (sym (only_end z g r x s e a v sd jo p j)) y) (λ a v p t j i. order x a v i p t j)

  abbrev Onward : ℕ → List Segment → Option ℕ → Decision → Type 0
  Onward n ts R D = AimHopped z r f P d x tl n u h ts R (blocked_by (build z r G u S) u d (strip u ts)) D

  -- at the aim
  at_aim : (k n : ℕ) (R : Option ℕ) (ts : List Segment) → ts ≡ tl → u ≡ x → ((a : ℕ) → R ≡ Some a → a ≡ 0) → Onward n ts R (forward_by (suc k) (build z r G u S) (pack d h ts) ts)
  at_aim k n R ts e w o = go tl aims e
    where
      go : (us : List Segment) → Aims d us x → ts ≡ us → AimHopped z r f P d x us n u h ts R (blocked_by (build z r G u S) u d (strip u ts)) (forward_by (suc k) (build z r G u S) (pack d h ts) ts)
      go [] a i =
          let off = ap (λ l. strip u l) i ∙ strip_none u in
          freely (ap (λ l. blocked_by (build z r G u S) u d l) off ∙ ap (λ y. blocked (build z r G u S) y) (cond-true (eqb u d) None (Some d) (eq-eqb u d (w ∙ sym a))))
          (is_delivered o (forward_on k z r G u S (pack d h ts) ts [] off ∙ at_dest z r G u S (pack d h ts) (forward_by k (build z r G u S) (pack d h ts)) (w ∙ sym a)))
      go (Node y ∷ us) a i = leaves (cons_nil (Node y) us) w i
      go (Link y v ∷ us) a i = absurd a

  -- elsewhere
  off : (ts : List Segment) → ts ≡ tl → (u ≡ x → ⊥) → strip u ts ≡ tl
  off ts e ne = ap (λ l. strip u l) e ∙ (aim_strip d x u tl aims ne).0

  to_aim : (k : ℕ) (ts : List Segment) → ts ≡ tl → (u ≡ x → ⊥) → forward_by (suc k) (build z r G u S) (pack d h ts) ts ≡ towards (build z r G u S) (pack d h ts) (forward_by k (build z r G u S) (pack d h ts)) x tl
  to_aim k ts e ne = forward_on k z r G u S (pack d h ts) ts tl (off ts e ne) ∙ go tl aims
    where
      go : (us : List Segment) → Aims d us x → by_segments (build z r G u S) (pack d h ts) (forward_by k (build z r G u S) (pack d h ts)) us ≡ towards (build z r G u S) (pack d h ts) (forward_by k (build z r G u S) (pack d h ts)) x us
      go [] a =
          not_at_dest z r G u S (pack d h ts) (forward_by k (build z r G u S) (pack d h ts)) (λ w. ne (w ∙ a)) ∙
          ap (λ y. towards (build z r G u S) (pack d h ts) (forward_by k (build z r G u S) (pack d h ts)) y []) a
      go (Node y ∷ us) a = ap (λ v. towards (build z r G u S) (pack d h ts) (forward_by k (build z r G u S) (pack d h ts)) v (Node y ∷ us)) a
      go (Link y v ∷ us) a = absurd a

  -- to the next hop, which is not over the failed link
  to_next : (k n v : ℕ) (R R' : Option ℕ) (ts : List Segment) → ts ≡ tl → (u ≡ x → ⊥) → entry (build z r G u S) x ≡ Some v → joins r u v ≡ false → Falls R (z.cost u v) R' → Rem z r f P x tl n v tl R' →
      Onward n ts R (forward_by (suc k) (build z r G u S) (pack d h ts) ts)
  to_next k n v R R' ts e ne en j o m =
      freely (ap (λ l. blocked_by (build z r G u S) u d l) (off ts e ne) ∙ open_next z r G u d x v S tl (aim_strip d x u tl aims ne).1 en j)
      (is_sent v tl R' j (to_aim k ts e ne ∙ towards_next z r G u S (pack d h ts) (forward_by k (build z r G u S) (pack d h ts)) x v tl en j pos) o m)

  steadily_next : (k n a : ℕ) (R : Option ℕ) (ts : List Segment) → R ≡ Some a → ts ≡ tl → uses z r x u ≡ false → distance z x u ≡ Some a → Onward n ts R (forward_by (suc k) (build z r G u S) (pack d h ts) ts)
  steadily_next k n a R ts i e t q = elim (cases_eq u x) [
    | inl w ↦ at_aim k n R ts e w (λ b y. same_some R b a y i ∙ same_some (distance z x x) a 0 (subst (λ y. distance z x y ≡ Some a) w q) (distance_self z g x))
    | inr w ↦
        let m = steady z g r x u a w t q in
        let v = m.0 in
        let y = m.1.near in
        to_next k n v R (Some y.rest) ts e w (entry_steady z r G u x v S m.1) m.1.over (falls_to R a y.rest (z.cost u v) i (same_some (distance z x u) a (z.cost u v + y.rest) q y.here))
        (steadily y.rest refl refl m.1.clear y.there)
  ]

  -- where all have switched whose paths use the link
  newly_next : (k n a : ℕ) (R : Option ℕ) (ts : List Segment) → R ≡ Some a → ts ≡ tl → ((v : ℕ) → uses z r x v ≡ true → f x v ≡ true) → distance (without r z) x u ≡ Some a → Onward n ts R (forward_by (suc k) (build z r G u S) (pack d h ts) ts)
  newly_next k n a R ts i e all q = elim (cases_eq u x) [
    | inl w ↦ at_aim k n R ts e w (λ b y. same_some R b a y i ∙ same_some (distance (without r z) x x) a 0 (subst (λ y. distance (without r z) x y ≡ Some a) w q) (distance_self (without r z) (lawful_without r z g) x))
    | inr w ↦
        let m = next_hop_where (without r z) (lawful_without r z g) x u a w q in
        let v = m.0 in
        let y = (next_hop_is (without r z) x u v m.1).near in
        let j = link_left_lem r z u v y.link in
        let en : entry (build z r G u S) x ≡ Some v = elim (cases_Bool (uses z r x u)) [
          | inl t ↦ entry_new z r G u x v S (is x ∙ all u t) m.1
          | inr t ↦ entry_is z r G u x S ∙ cond_both (over S x) (without r z) z (λ y. next_hop y x u ≡ Some v) (λ _. m.1) (λ _. sym (untouched z g r x u t).same_hop ∙ m.1)
        ] in
        let o : a ≡ z.cost u v + y.rest = same_some (distance (without r z) x u) a ((without r z).cost u v + y.rest) q y.here ∙ ap (λ c. c + y.rest) (cost_left r z u v j) in
        to_next k n v R (Some y.rest) ts e w en j (falls_to R a y.rest (z.cost u v) i o) (newly y.rest refl refl all y.there)
  ]

  -- on a repair
  aside_next : (k n a : ℕ) (R : Option ℕ) (w : Packet) (ts : List Segment) → w.destination ≡ d → w.hop_limit ≡ h → R ≡ Some a → Aside z r x tl u ts a →
      AimNext z r f P d x tl n u h R (forward_by (suc k) (build z r G u S) w ts) × (blocked_by (build z r G u S) u d (strip u ts) ≡ false)
  aside_next k n a R w ts wd wh i A = elim (cases_eq u A.p) [
    | inl e ↦
        let us = Link A.p A.q ∷ tl in
        let o = ap (λ l. strip u l) A.is ∙ (strip_own u A.p us e ∙ strip_link u A.p A.q tl) in
        let m : A.a ≡ 0 = same_some (distance z A.p A.p) A.a 0 (subst (λ v. distance z A.p v ≡ Some A.a) e A.to_p) (distance_self z g A.p) in
        let c : z.cost u A.q ≡ z.cost A.p A.q = ap (λ v. z.cost v A.q) e in
        let s : a ≡ z.cost u A.q + A.b = omega (arith, A.sum) in (
          is_sent A.q tl (Some A.b) (subst (λ v. joins r v A.q ≡ false) (sym e) A.clear_over)
              (forward_on k z r G u S w ts us o ∙ (over_link_lem z r G u S w (forward_by k (build z r G u S) w) A.p A.q tl (sym e) A.link A.clear_over (omega arith) ∙ ap (λ p. Send A.q p) (lessens tl)))
              (falls_to R a A.b (z.cost u A.q) i s) (steadily A.b refl refl A.clear_from A.from_q),
          ap (λ l. blocked_by (build z r G u S) u d l) o,
        )
    | inr e ↦
        let us = Node A.p ∷ (Link A.p A.q ∷ tl) in
        let o = ap (λ l. strip u l) A.is ∙ strip_other u A.p (Link A.p A.q ∷ tl) e in
        let m = steady z g r A.p u A.a e A.clear_to A.to_p in
        let v = m.0 in
        let y = m.1.near in
        let en = entry_steady z r G u A.p v S m.1 in
        let b = y.rest + z.cost A.p A.q + A.b in
        let c : A.a ≡ z.cost u v + y.rest = same_some (distance z A.p u) A.a (z.cost u v + y.rest) A.to_p y.here in
        let s : a ≡ z.cost u v + b = omega (arith, A.sum) in (
          is_sent v us (Some b) m.1.over
              (forward_on k z r G u S w ts us o ∙ (towards_next z r G u S w (forward_by k (build z r G u S) w) A.p v us en m.1.over (omega arith) ∙ ap (λ p. Send v p) (lessens us))) (falls_to R a b (z.cost u v) i s)
              (aside b refl (record { p = A.p; q = A.q; a = y.rest; b = A.b; is = refl; to_p = y.there; clear_to = m.1.clear; link = A.link; clear_over = A.clear_over; from_q = A.from_q; clear_from = A.clear_from; sum = refl })),
          ap (λ l. blocked_by (build z r G u S) u d l) o ∙ open_next z r G u d A.p v S us refl en m.1.over,
        )
  ]
    where
      lessens : (us : List Segment) → less w us ≡ pack d (h - 1) us
      lessens us = cc

  -- where the path uses the link
  touched_next : (k n c : ℕ) (R : Option ℕ) (ts : List Segment) → ts ≡ tl → 1 ≤ n → uses z r x u ≡ true → distance (without r z) x u ≡ Some c → ((a : ℕ) → R ≡ Some a → Climbs z r P x u a) → Onward n ts R (forward_by (suc (suc k)) (build z r G u S) (pack d h ts) ts)
  touched_next k n c R ts e l t q C = elim (cases_Bool (f x u)) [
    | inl y ↦ by_new R refl y
    | inr y ↦ let w = uses_hop z r x u t in elim (cases_Bool (joins r u w.0)) [ inl j ↦ over_end w.0 w.1 j y | inr j ↦ up w.0 w.1 j y R refl ]
  ]
    where
      ne : u ≡ x → ⊥
      ne = uses_elsewhere z r x u t

      at_end : (a : ℕ) (w : Climbs z r P x u a) → u ≡ w.s → a ≡ w.c
      at_end a w i = let s = same_some (distance z x w.s) w.t w.q (subst (λ v. distance z x v ≡ Some w.t) i w.here) w.old in omega (arith, w.sum)

      -- it has switched
      by_new : (Q : Option ℕ) → R ≡ Q → f x u ≡ true → Onward n ts R (forward_by (suc (suc k)) (build z r G u S) (pack d h ts) ts)
      by_new (Some a) i y =
          let w = C a i in
          elim w.at [
            | inl o ↦ newly_next (suc k) n a R ts i e (root w.s w.e w.sends w.link (subst (λ v. f x v ≡ true) o y)) (subst (λ v. distance (without r z) x v ≡ Some a) (sym o) (w.left ∙ ap Some (sym (at_end a w o))))
            | inr p ↦ absurd (both_ways (f x u) (N p u) y)
          ]
      by_new None i y =
          let m = next_hop_where (without r z) (lawful_without r z g) x u c ne q in
          let v = m.0 in
          let w = (next_hop_is (without r z) x u v m.1).near in
          let j = link_left_lem r z u v w.link in
          let en = entry_new z r G u x v S (is x ∙ y) m.1 in
          elim (cases_Bool (uses z r x v)) [
            | inl tv ↦ to_next (suc k) n v R None ts e ne en j (λ a o. absurd (none_some a (sym i ∙ o))) (touched w.rest refl l tv w.there (λ a o. absurd (none_some a o)))
            | inr tv ↦ to_next (suc k) n v R (Some w.rest) ts e ne en j (λ a o. absurd (none_some a (sym i ∙ o))) (steadily w.rest refl refl tv (sym (untouched z g r x v tv).same_distance ∙ w.there))
          ]

      -- it puts the repair
      over_end : (v : ℕ) → next_hop z x u ≡ Some v → joins r u v ≡ true → f x u ≡ false → Onward n ts R (forward_by (suc (suc k)) (build z r G u S) (pack d h ts) ts)
      over_end v p j y =
          let m = repaired z g r u v x c j p q in
          let s = m.2 in
          let us = Node m.0.p ∷ (Link m.0.p m.0.q ∷ tl) in
          let A : Aside z r x tl u us c =
          record { p = m.0.p; q = m.0.q; a = s.first; b = s.rest; is = refl; to_p = s.to_p; clear_to = s.clear_to; link = link_kept r z m.0.p m.0.q s.link_left; clear_over = s.clear_over; from_q = s.from_q; clear_from = s.clear_from; sum = sym s.cost } in
          goes_on (n - 1) (most (blocked_by (build z r G u S) u d (strip u ts)))
          (next_as (to_aim (suc k) ts e ne ∙ towards_repair z r G u S (pack d h ts) (forward_by (suc k) (build z r G u S) (pack d h ts)) x v m.0 tl (ends v j) (is x ∙ y) p j m.1 few) same
          (aside_next k (n - 1) c (Some c) (pack d h ts) us refl refl refl A).0)
        where
          most : (b : Bool) → count_if b (n - 1) ≤ n
          most true = omega arith
          most false = omega arith

          same : (a : ℕ) → R ≡ Some a → Some c ≡ Some a
          same a i =
              let w = C a i in
              let o = only_end z g r x w.s w.e u v w.sends w.link p j in
              let b = same_some (distance (without r z) x w.s) c w.c (subst (λ v. distance (without r z) x v ≡ Some c) o q) w.left in
              ap Some (b ∙ sym (at_end a w o))

      -- it sends up to the end of the link
      up : (v : ℕ) → next_hop z x u ≡ Some v → joins r u v ≡ false → f x u ≡ false → (Q : Option ℕ) → R ≡ Q → Onward n ts R (forward_by (suc (suc k)) (build z r G u S) (pack d h ts) ts)
      up v p j y Q i =
          let m = left_on z g r x u v c p j q in
          let en = entry_old z r G u x v S (is x ∙ y) p in
          go Q i m en
        where
          tv : uses z r x v ≡ true
          tv = uses_on z g r x u v p t j

          go : (Q : Option ℕ) → R ≡ Q → (b : ℕ) × (distance (without r z) x v ≡ Some b) → entry (build z r G u S) x ≡ Some v → Onward n ts R (forward_by (suc (suc k)) (build z r G u S) (pack d h ts) ts)
          go None i m en = to_next (suc k) n v R None ts e ne en j (λ a o. absurd (none_some a (sym i ∙ o))) (touched m.0 refl l tv m.1 (λ a o. absurd (none_some a o)))
          go (Some a) i m en =
              let w = C a i in
              let y = (next_hop_is z x u v p).near in
              let s = second_link z g r w.s w.e x v w.link w.sends tv in
              let b1 : s.1 ≡ w.q = same_some (distance z x w.s) s.1 w.q s.3 w.old in
              let b2 : s.0 + s.1 ≡ y.rest = same_some (distance z x v) (s.0 + s.1) y.rest s.4 y.there in
              let b3 : w.t ≡ z.cost u v + y.rest = same_some (distance z x u) w.t (z.cost u v + y.rest) w.here y.here in
              let fall : a ≡ z.cost u v + (s.0 + w.c) = omega (arith, w.sum) in
              let on : (u ≡ w.s) ⊎ P → P = λ o. elim o [
                | inr pr ↦ pr
                | inl o ↦
                    let i : v ≡ w.e = same_some (next_hop z x u) v w.e p (subst (λ v. next_hop z x v ≡ Some w.e) (sym o) w.sends) in
                    absurd (both_ways (joins r u v) j (subst (λ v. joins r u v ≡ true) (sym i) (subst (λ v. joins r v w.e ≡ true) (sym o) w.link)))
              ] in
              to_next (suc k) n v R (Some (s.0 + w.c)) ts e ne en j (falls_to R a (s.0 + w.c) (z.cost u v) i fall)
              (touched m.0 refl l tv m.1
              (λ b o. record { s = w.s; e = w.e; q = w.q; c = w.c; t = y.rest; sends = w.sends; link = w.link; old = w.old; left = w.left; at = inr (on w.at); here = y.there; sum = let k : s.0 + w.c ≡ b = some_inj (s.0 + w.c) b o in omega arith }))

  pub rem_next : (n : ℕ) (R : Option ℕ) (ts : List Segment) → Rem z r f P x tl n u ts R → Onward n ts R (forward_by 3 (build z r G u S) (pack d h ts) ts)
  rem_next n R ts (touched c e l t q w) = touched_next 1 n c R ts e l t q w
  rem_next n R ts (aside a i w) = let m = aside_next 2 n a R (pack d h ts) ts refl refl i w in freely m.1 m.0
  rem_next n R ts (steadily a i e t q) = steadily_next 2 n a R ts i e t q
  rem_next n R ts (newly a i e all q) = newly_next 2 n a R ts i e all q
