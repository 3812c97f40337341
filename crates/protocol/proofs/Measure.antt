-- Only so many events change anything, and the others change nothing.
use Rattle.std.proofs.Common.{◌≡◌, ℕ, zero, suc, ◌+◌, ◌*◌, ◌<◌, ◌≤◌, Bool, true, false, cond, not, ◌&&◌, ◌||◌, eqb, ltb, List, [], ◌∷◌, ◌++◌, length, is_some, Some, None, Option, sym, refl, ap, ◌∙◌, subst, inl, inr, mul-le-mul_right, arith, length-append}
use Rattle.std.proofs.lemmas.Bool.{both_ways, not-true, not-false, ltb-true, eqb-true, eq-eqb, ne_eqb, cases_lt, and_parts, cases_eq, cases_Bool, or_left, or_right, not_from_true, not_from_false, cond-true, cond-false, cond_both}
use Rattle.protocol.specs.Hearing.{awaited, switched_while, hear}
use Rattle.protocol.specs.Failed.{after, Failed}
use Rattle.protocol.specs.Progress.{changes, changing, Bounded, Same}
use Rattle.protocol.specs.System.{nth, go_on, arrive, moved, put_on, set_flight, step, notices, fails, count_if, System, Flight, Event, Arrive, Switch, Put, Hop}
use Rattle.protocol.specs.Router.{idle, same_link, has_link, has_switched, Router, Transition, Reply, Refused, Stays, Goes}
use Rattle.protocol.specs.Switching.{none_below, all_below, may_in, may, mark, after_switch, says, switch_in, switch}
use Rattle.protocol.proofs.Said.{nth_old, nth_within, tell_few, say_few}
use Rattle.protocol.proofs.Invariant.{Honest, Taken, Later}
use Rattle.protocol.proofs.Shape.{transition_of, build, over, knows, switched_is, Shape, Unaware, Switching, Settled}
use Rattle.protocol.proofs.Links.{joins_self, Ignored, ignored_stays}
use Rattle.protocol.proofs.Steps.{stale_build, down_unaware, down_known, over_noted, held_later, Held, held_start, stepped, held, done_is}
use Rattle.theory.specs.Network.{Network, LinkId}
use Rattle.theory.proofs.Distances.{count, one_most, count_most, count_le, count_lt}
use Rattle.types.specs.declared.message.Message.{Message}
use Rattle.types.specs.declared.message.Message.TheVariants.{LinkDown}
use Rattle.types.specs.declared.message.Message.TheVariants as message
use Rattle.types.specs.declared.message.Sent.{Sent}
use Rattle.types.specs.declared.message.Switched.{Switched}

-- sums
total : ℕ → (ℕ → ℕ) → ℕ
total zero f = 0
total (suc k) f = total k f + f k

total_most : (k b : ℕ) (f : ℕ → ℕ) → ((u : ℕ) → f u ≤ b) → total k f ≤ k * b
unfolding total
total_most zero b f h = omega arith
total_most (suc k) b f h = omega (arith, total_most k b f h, h k)

total_le : (k : ℕ) (f g : ℕ → ℕ) → ((u : ℕ) → f u ≤ g u) → total k f ≤ total k g
unfolding total
total_le zero f g h = omega arith
total_le (suc k) f g h = omega (arith, total_le k f g h, h k)

total_lt : (k : ℕ) (f g : ℕ → ℕ) → ((u : ℕ) → f u ≤ g u) → (v : ℕ) → v < k → f v < g v → total k f < total k g
unfolding total
total_lt zero f g h v b l = absurd (omega arith)
total_lt (suc k) f g h v b l = elim (cases_eq v k) [
  | inl e ↦ let m : f k < g k = subst (λ x. f x < g x) e l in omega (arith, total_le k f g h)
  | inr e ↦ omega (arith, total_lt k f g h v (omega arith) l, h k)
]

count_longer : (x k : ℕ) (p : ℕ → Bool) → count (k + x) p ≤ count k p + x
unfolding count
count_longer zero k p = let q : k + 0 ≡ k = omega arith in let e : count (k + 0) p ≡ count k p = ap (λ y. count y p) q in omega arith
count_longer (suc x) k p =
    let q : k + suc x ≡ suc (k + x) = omega arith in
    let e : count (k + suc x) p ≡ count (suc (k + x)) p = ap (λ y. count y p) q in
    omega (arith, count_longer x k p, one_most (p (k + x)))

not_back : (a b : Bool) → (a ≡ true → b ≡ true) → not b ≡ true → not a ≡ true
not_back a b h e = elim (cases_Bool a) [ inl t ↦ absurd (both_ways b (not-true b e) (h t)) | inr f ↦ not_from_false a f ]

-- what is still to come: messages, routers that don't know, destinations that are not switched for
pub coming : System → ℕ
coming σ = count (length σ.said) (λ k. not (σ.came k))

pub unknown : Network → (ℕ → Shape) → ℕ
unknown z sh = count z.n (λ u. not (knows (sh u)))

pub undone : Network → (ℕ → Shape) → ℕ
undone z sh = total z.n (λ u. count z.n (λ d. not (over (sh u) d)))

abbrev pub todo : Network → System → (ℕ → Shape) → ℕ
todo z σ sh = coming σ + (z.n + 1) * unknown z sh + 2 * undone z sh

module _ (z : Network) (sh th : ℕ → Shape) where
  unknown_le : ((u : ℕ) → knows (sh u) ≡ true → knows (th u) ≡ true) → unknown z th ≤ unknown z sh
  unfolding unknown
  unknown_le h = count_le z.n (λ u. not (knows (th u))) (λ u. not (knows (sh u))) (λ u e. not_back (knows (sh u)) (knows (th u)) (h u) e)

  unknown_lt : ((u : ℕ) → knows (sh u) ≡ true → knows (th u) ≡ true) → (v : ℕ) → v < z.n → knows (sh v) ≡ false → knows (th v) ≡ true → unknown z th < unknown z sh
  unfolding unknown
  unknown_lt h v b n y =
      count_lt z.n (λ u. not (knows (th u))) (λ u. not (knows (sh u))) (λ u e. not_back (knows (sh u)) (knows (th u)) (h u) e) v b (not_from_true (knows (th v)) y) (not_from_false (knows (sh v)) n)

  fewer : ((d u : ℕ) → over (sh u) d ≡ true → over (th u) d ≡ true) → (u : ℕ) → count z.n (λ d. not (over (th u) d)) ≤ count z.n (λ d. not (over (sh u) d))
  fewer h u = count_le z.n (λ d. not (over (th u) d)) (λ d. not (over (sh u) d)) (λ d e. not_back (over (sh u) d) (over (th u) d) (h d u) e)

  undone_le : ((d u : ℕ) → over (sh u) d ≡ true → over (th u) d ≡ true) → undone z th ≤ undone z sh
  unfolding undone
  undone_le h = total_le z.n (λ u. count z.n (λ d. not (over (th u) d))) (λ u. count z.n (λ d. not (over (sh u) d))) (fewer h)

  undone_lt : ((d u : ℕ) → over (sh u) d ≡ true → over (th u) d ≡ true) → (v d : ℕ) → v < z.n → d < z.n → over (sh v) d ≡ false → over (th v) d ≡ true → undone z th < undone z sh
  unfolding undone
  undone_lt h v d b bd n y =
      total_lt z.n (λ u. count z.n (λ d. not (over (th u) d))) (λ u. count z.n (λ d. not (over (sh u) d))) (fewer h) v b
      (count_lt z.n (λ d. not (over (th v) d)) (λ d. not (over (sh v) d)) (λ d e. not_back (over (sh v) d) (over (th v) d) (h d v) e) d bd (not_from_true (over (th v) d) y) (not_from_false (over (sh v) d) n))

-- how much a reply says
abbrev new_in : Reply → ℕ
new_in (Refused k) = 0
new_in Stays = 0
new_in (Goes s new) = length new

new_ignored : (R : Reply) → Ignored R → new_in R ≡ 0
new_ignored (Refused k) i = refl
new_ignored Stays i = refl
new_ignored (Goes s new) i = absurd i

goes_length : (σ : System) (u : ℕ) (came : ℕ → Bool) (R : Reply) → length (go_on σ u came R).said ≡ length σ.said + new_in R
goes_length σ u came (Refused k) = omega arith
goes_length σ u came Stays = omega arith
goes_length σ u came (Goes s new) = length-append σ.said new

goes_came : (σ : System) (u : ℕ) (came : ℕ → Bool) (R : Reply) (k : ℕ) → (go_on σ u came R).came k ≡ came k
goes_came σ u came (Refused x) k = refl
goes_came σ u came Stays k = refl
goes_came σ u came (Goes s new) k = refl

goes_said : (σ : System) (u : ℕ) (came : ℕ → Bool) (R : Reply) (k : ℕ) (m : Sent) → nth σ.said k ≡ Some m → nth (go_on σ u came R).said k ≡ Some m
goes_said σ u came (Refused x) k m e = e
goes_said σ u came Stays k m e = e
goes_said σ u came (Goes s new) k m e = nth_old σ.said new k m e

goes_coming : (σ : System) (u : ℕ) (came : ℕ → Bool) (R : Reply) → coming (go_on σ u came R) ≤ count (length σ.said) (λ k. not (came k)) + new_in R
unfolding coming
goes_coming σ u came (Refused x) = omega arith
goes_coming σ u came Stays = omega arith
goes_coming σ u came (Goes s new) =
    let e : count (length (σ.said ++ new)) (λ k. not (came k)) ≡ count (length σ.said + length new) (λ k. not (came k)) = ap (λ y. count y (λ k. not (came k))) (length-append σ.said new) in
    omega (arith, count_longer (length new) (length σ.said) (λ k. not (came k)))

switch_coming : (σ : System) (u : ℕ) (R : Reply) → coming (go_on σ u σ.came R) ≤ coming σ + new_in R
unfolding coming
switch_coming σ u R = goes_coming σ u σ.came R

-- when message k arrives, no more are to come, and fewer if it had not come yet
module _ (σ : System) (k : ℕ) (m : Sent) (e : nth σ.said k ≡ Some m) where
  left_le : count (length σ.said) (λ j. not (eqb j k || σ.came j)) ≤ coming σ
  unfolding coming
  left_le =
      count_le (length σ.said) (λ j. not (eqb j k || σ.came j)) (λ j. not (σ.came j)) (λ j h. not_back (σ.came j) (eqb j k || σ.came j) (λ y. or_right (eqb j k) (σ.came j) y) h)

  left_lt : σ.came k ≡ false → count (length σ.said) (λ j. not (eqb j k || σ.came j)) < coming σ
  unfolding coming
  left_lt n =
      count_lt (length σ.said) (λ j. not (eqb j k || σ.came j)) (λ j. not (σ.came j)) (λ j h. not_back (σ.came j) (eqb j k || σ.came j) (λ y. or_right (eqb j k) (σ.came j) y) h) k
      (nth_within σ.said k m e) (not_from_true (eqb k k || σ.came k) (or_left (eqb k k) (σ.came k) (eq-eqb k k refl))) (not_from_false (σ.came k) n)

coming_same : (σ : System) (fl : ℕ → Flight) → coming (record { routers = σ.routers; said = σ.said; came = σ.came; flights = fl }) ≡ coming σ
unfolding coming
coming_same σ fl = refl

abbrev Silent : Reply → Type 0
Silent R = new_in R ≡ 0

-- a Switched message is never answered by messages
over_silent : (s : Router) (v : ℕ) (m : Switched) → Silent (hear s v (message.Switched m))
over_silent s v m =
    cond_both (has_link s.links m.link) _ _ Silent (λ _. cond_both (eqb v m.from) _ _ Silent (λ _. inner s.transition) (λ _. refl)) (λ _. refl)
  where
    inner : (o : Option Transition) → Silent (switched_while m s o)
    inner None = cond_both (awaited s m.link m.destination m.from) _ _ Silent (λ _. refl) (λ _. refl)
    inner (Some t) = cond_both (same_link t.link m.link && t.pending m.destination m.from) _ _ Silent (λ _. refl) (λ _. refl)

module _ (z : Network) (r : LinkId) (ω : System) (F : Failed z r ω) where
  down_new : (w v : ℕ) (S : Shape) → new_in (hear (build z r F.calm.gone w S) v (LinkDown r)) ≤ z.n
  down_new w v S = go S
    where
      known : (X : Shape) → knows X ≡ true → new_in (hear (build z r F.calm.gone w X) v (LinkDown r)) ≤ z.n
      known X k = let e : new_in (hear (build z r F.calm.gone w X) v (LinkDown r)) ≡ 0 = ap new_in (down_known z r F.calm.gone F.there w v X k) in omega arith

      go : (X : Shape) → new_in (hear (build z r F.calm.gone w X) v (LinkDown r)) ≤ z.n
      go (Unaware es) = subst (λ R. new_in R ≤ z.n) (sym (down_unaware z r F.calm.gone F.there w v es)) (tell_few z r w z.n)
      go (Switching sw pe) = known (Switching sw pe) refl
      go Settled = known Settled refl

  -- what a message is answered by is paid for by who learns of the failure
  paid : (σ : System) (H : Held z r F.calm.gone σ) (k : ℕ) (m : Sent) → nth σ.said k ≡ Some m → (l : Later z r F.calm.gone σ H.inv (arrive σ k (Some m))) →
      new_in (hear (σ.routers m.to) m.from m.message) + (z.n + 1) * unknown z l.inv.shape ≤ (z.n + 1) * unknown z H.inv.shape
  paid σ H k m e l = elim (H.inv.sound k m e) [
    | inl h ↦ by m.message refl h
    | inr h ↦
        let x = new_ignored (hear (σ.routers m.to) m.from m.message) (subst (λ (s : Router). Ignored (hear s m.from m.message)) (sym is) (stale_build z r F.calm.gone m.to m.from (H.inv.shape m.to) m.message h)) in
        omega (arith, most)
  ]
    where
      is : σ.routers m.to ≡ build z r F.calm.gone m.to (H.inv.shape m.to)
      is = H.inv.is m.to (H.inv.inside k m e)

      most : (z.n + 1) * unknown z l.inv.shape ≤ (z.n + 1) * unknown z H.inv.shape
      most = let q = mul-le-mul_right (z.n + 1) (unknown_le z H.inv.shape l.inv.shape l.know) in omega arith

      by : (M : Message) → m.message ≡ M → Honest z r H.inv.shape m.from m.to M → new_in (hear (σ.routers m.to) m.from m.message) + (z.n + 1) * unknown z l.inv.shape ≤ (z.n + 1) * unknown z H.inv.shape
      by (message.Switched n) q h =
          let y : new_in (hear (σ.routers m.to) m.from m.message) ≡ 0 =
          ap (λ y. new_in (hear (σ.routers m.to) m.from y)) q ∙ over_silent (σ.routers m.to) m.from n in
          omega (arith, most)
      by (LinkDown x) q h =
          let S = H.inv.shape m.to in
          let alike : new_in (hear (σ.routers m.to) m.from m.message) ≡ new_in (hear (build z r F.calm.gone m.to S) m.from (LinkDown r)) =
          ap (λ y. new_in (hear (σ.routers m.to) m.from y)) (q ∙ ap LinkDown h) ∙ ap (λ (s : Router). new_in (hear s m.from (LinkDown r))) is in
          elim (cases_Bool (knows S)) [
            | inl y ↦
                let n : new_in (hear (build z r F.calm.gone m.to S) m.from (LinkDown r)) ≡ 0 = ap new_in (down_known z r F.calm.gone F.there m.to m.from S y) in
                omega (arith, most)
            | inr y ↦
                let now = goes_came σ m.to (λ j. eqb j k || σ.came j) (hear (σ.routers m.to) m.from m.message) k ∙ or_left (eqb k k) (σ.came k) (eq-eqb k k refl) in
                let said = goes_said σ m.to (λ j. eqb j k || σ.came j) (hear (σ.routers m.to) m.from m.message) k m e in
                let kn = subst (λ M. Taken r (l.inv.shape m.to) M) (q ∙ ap LinkDown h) (l.inv.taken k m said now) (joins_self r) in
                let lt = unknown_lt z H.inv.shape l.inv.shape l.know m.to (H.inv.inside k m e) y kn in
                let ml = mul-le-mul_right (z.n + 1) lt in
                omega (arith, down_new m.to m.from S)
          ]

  arrive_falls : (k : ℕ) (σ : System) (H : Held z r F.calm.gone σ) (M : Option Sent) → nth σ.said k ≡ M → (l : Later z r F.calm.gone σ H.inv (arrive σ k M)) →
      count_if (is_some M && not (σ.came k)) (todo z (arrive σ k M) l.inv.shape) ≤ todo z σ H.inv.shape
  arrive_falls k σ H None e l =
      let c = mul-le-mul_right (z.n + 1) (unknown_le z H.inv.shape l.inv.shape l.know) in
      omega (arith, undone_le z H.inv.shape l.inv.shape l.more)
  arrive_falls k σ H (Some m) e l =
      let R = hear (σ.routers m.to) m.from m.message in
      let a = goes_coming σ m.to (λ j. eqb j k || σ.came j) R in
      let b = undone_le z H.inv.shape l.inv.shape l.more in
      let c = paid σ H k m e l in
      elim (cases_Bool (σ.came k)) [
        | inl y ↦ subst (λ x. count_if (not x) (todo z (arrive σ k (Some m)) l.inv.shape) ≤ todo z σ H.inv.shape) (sym y) (omega (arith, left_le σ k m e))
        | inr y ↦ subst (λ x. count_if (not x) (todo z (arrive σ k (Some m)) l.inv.shape) ≤ todo z σ H.inv.shape) (sym y) (omega (arith, left_lt σ k m e y))
      ]

  -- a router that may switch has switched then
  now_over : (σ : System) (H : Held z r F.calm.gone σ) (u d : ℕ) (l : Later z r F.calm.gone σ H.inv (step (Switch u d) σ)) (sw : ℕ → Bool) (pe : ℕ → ℕ → Bool) → u < z.n →
      σ.routers u ≡ build z r F.calm.gone u (Switching sw pe) → may (build z r F.calm.gone u (Switching sw pe)) d ≡ true → over (l.inv.shape u) d ≡ true
  now_over σ H u d l sw pe b is t =
      let s = build z r F.calm.gone u (Switching sw pe) in
      let s' = after_switch d (transition_of r sw pe) s in
      sym (done_is z r ω F (step (Switch u d) σ) (held_later z r F.calm.gone σ (step (Switch u d) σ) H l) d u b) ∙
      (ap (λ (x : Router). has_switched r ((go_on σ u σ.came (switch x d)).routers u) d) is ∙
      (ap (λ R. has_switched r ((go_on σ u σ.came R).routers u) d) (cond-true (may s d) (Goes s' (says d r s)) Stays t) ∙
      (ap (λ (x : Router). has_switched r x d) (cond-true (eqb u u) s' (σ.routers u) (eq-eqb u u refl)) ∙ go (all_below z.n (mark d sw)))))
    where
      go : (b : Bool) → has_switched r (cond b (build z r F.calm.gone u Settled) (build z r F.calm.gone u (Switching (mark d sw) pe))) d ≡ true
      go true = switched_is z r F.calm.gone F.there u Settled d
      go false = switched_is z r F.calm.gone F.there u (Switching (mark d sw) pe) d ∙ or_left (eqb d d) (sw d) (eq-eqb d d refl)

  switch_falls : (u d : ℕ) (σ : System) (H : Held z r F.calm.gone σ) (l : Later z r F.calm.gone σ H.inv (step (Switch u d) σ)) →
      count_if (may (σ.routers u) d) (todo z (step (Switch u d) σ) l.inv.shape) ≤ todo z σ H.inv.shape
  switch_falls u d σ H l = elim (cases_lt u z.n) [
    | inl b ↦ go b (H.inv.shape u) refl
    | inr b ↦ idle' (ap (λ o. may_in (σ.routers u) d o) (H.inv.others u b)) (ap (λ o. new_in (switch_in (σ.routers u) d o)) (H.inv.others u b))
  ]
    where
      τ : System
      τ = step (Switch u d) σ

      a : (z.n + 1) * unknown z l.inv.shape ≤ (z.n + 1) * unknown z H.inv.shape
      a = let q = mul-le-mul_right (z.n + 1) (unknown_le z H.inv.shape l.inv.shape l.know) in omega arith

      b : undone z l.inv.shape ≤ undone z H.inv.shape
      b = undone_le z H.inv.shape l.inv.shape l.more

      c : coming (step (Switch u d) σ) ≤ coming σ + new_in (switch (σ.routers u) d)
      c = switch_coming σ u (switch (σ.routers u) d)

      idle' : may (σ.routers u) d ≡ false → new_in (switch (σ.routers u) d) ≡ 0 → count_if (may (σ.routers u) d) (todo z τ l.inv.shape) ≤ todo z σ H.inv.shape
      idle' n w = subst (λ x. count_if x (todo z τ l.inv.shape) ≤ todo z σ H.inv.shape) (sym n) (omega (arith, a, b, c))

      go : u < z.n → (S : Shape) → H.inv.shape u ≡ S → count_if (may (σ.routers u) d) (todo z τ l.inv.shape) ≤ todo z σ H.inv.shape
      go bu S e = at S e (H.inv.is u bu ∙ ap (λ X. build z r F.calm.gone u X) e)
        where
          at : (S : Shape) → H.inv.shape u ≡ S → σ.routers u ≡ build z r F.calm.gone u S → count_if (may (σ.routers u) d) (todo z τ l.inv.shape) ≤ todo z σ H.inv.shape
          at (Unaware es) e is = idle' (ap (λ (s : Router). may s d) is) (ap (λ (s : Router). new_in (switch s d)) is)
          at Settled e is = idle' (ap (λ (s : Router). may s d) is) (ap (λ (s : Router). new_in (switch s d)) is)
          at (Switching sw pe) e is =
              let s = build z r F.calm.gone u (Switching sw pe) in
              let goes = Goes (after_switch d (transition_of r sw pe) s) (says d r s) in
              elim (cases_Bool (may s d)) [
                | inr n ↦
                    idle' (ap (λ (s : Router). may s d) is ∙ n)
                    (ap (λ (s : Router). new_in (switch s d)) is ∙ ap new_in (cond-false (may s d) goes Stays n))
                | inl y ↦
                    let p = and_parts (ltb d z.n) (not (sw d) && none_below z.n (pe d)) y in
                    let q = and_parts (not (sw d)) (none_below z.n (pe d)) p.1 in
                    let x : new_in (switch (σ.routers u) d) ≤ 1 =
                    subst (λ (s : Router). new_in (switch s d) ≤ 1) (sym is)
                    (subst (λ R. new_in R ≤ 1) (sym (cond-true (may s d) goes Stays y)) (say_few z r u d)) in
                    let lt = undone_lt z H.inv.shape l.inv.shape l.more u d bu (ltb-true d z.n p.0) (ap (λ X. over X d) e ∙ not-true (sw d) q.0) (now_over σ H u d l sw pe bu is y) in
                    subst (λ b. count_if b (todo z τ l.inv.shape) ≤ todo z σ H.inv.shape) (sym (ap (λ (s : Router). may s d) is ∙ y)) (omega (arith, a, c))
              ]

  silent_falls : (e : Event) (σ : System) (H : Held z r F.calm.gone σ) → coming (step e σ) ≡ coming σ → todo z (step e σ) (stepped z r ω F e σ H).inv.shape ≤ todo z σ H.inv.shape
  silent_falls e σ H alike =
      let l = stepped z r ω F e σ H in
      let c = mul-le-mul_right (z.n + 1) (unknown_le z H.inv.shape l.inv.shape l.know) in
      omega (arith, undone_le z H.inv.shape l.inv.shape l.more)

  pub falls : (e : Event) (σ : System) (H : Held z r F.calm.gone σ) → count_if (changes e σ) (todo z (step e σ) (stepped z r ω F e σ H).inv.shape) ≤ todo z σ H.inv.shape
  falls (Arrive k) σ H = arrive_falls k σ H (nth σ.said k) refl (stepped z r ω F (Arrive k) σ H)
  falls (Switch u d) σ H = switch_falls u d σ H (stepped z r ω F (Switch u d) σ H)
  falls (Put q u p) σ H = silent_falls (Put q u p) σ H (coming_same σ (set_flight q (put_on u p (σ.flights q)) σ.flights))
  falls (Hop q) σ H = silent_falls (Hop q) σ H (coming_same σ (set_flight q (moved σ.routers (σ.flights q)) σ.flights))

  bounded_run : (es : List Event) (σ : System) (H : Held z r F.calm.gone σ) → changing es σ ≤ todo z σ H.inv.shape
  unfolding changing
  bounded_run [] σ H = omega arith
  bounded_run (e ∷ es) σ H =
      let l = stepped z r ω F e σ H in
      let i = bounded_run es (step e σ) (held_later z r F.calm.gone σ (step e σ) H l) in
      omega (arith, more (changes e σ) (changing es (step e σ)) (todo z (step e σ) l.inv.shape) i, falls e σ H)
    where
      more : (b : Bool) (x y : ℕ) → x ≤ y → count_if b x ≤ count_if b y
      more true x y h = omega arith
      more false x y h = h

  said_first : (σ : System) (u : ℕ) → σ.routers u ≡ idle z (F.calm.gone u) u → length (notices r u σ).said ≤ length σ.said + z.n
  said_first σ u e =
      let b : new_in (hear (σ.routers u) u (LinkDown r)) ≤ z.n = subst (λ (s : Router). new_in (hear s u (LinkDown r)) ≤ z.n) (sym e) (down_new u u (Unaware [])) in
      omega (arith, goes_length σ u σ.came (hear (σ.routers u) u (LinkDown r)))

  other : (σ : System) (u v : ℕ) (came : ℕ → Bool) (R : Reply) → (v ≡ u → ⊥) → (go_on σ u came R).routers v ≡ σ.routers v
  other σ u v came (Refused k) h = refl
  other σ u v came Stays h = refl
  other σ u v came (Goes s new) h = cond-false (eqb v u) s (σ.routers v) (ne_eqb v u h)

  todo_start : (sh : ℕ → Shape) → todo z (fails r ω) sh ≤ 3 * z.n * z.n + 3 * z.n + length ω.said
  unfolding coming unknown undone
  todo_start sh =
      let ins = F.lawful.within r.a r.b F.there in
      let apart : r.b ≡ r.a → ⊥ = λ e. let x : z.cost r.a r.b ≡ z.cost r.a r.a = ap (λ y. z.cost r.a y) e in omega (arith, F.there, F.lawful.loopless r.a) in
      let a = said_first ω r.a (F.calm.nothing r.a ins.0) in
      let b = said_first (notices r r.a ω) r.b (other ω r.a r.b ω.came (hear (ω.routers r.a) r.a (LinkDown r)) apart ∙ F.calm.nothing r.b ins.1) in
      let c = count_most (length (fails r ω).said) (λ k. not ((fails r ω).came k)) in
      let d = mul-le-mul_right (z.n + 1) (count_most z.n (λ u. not (knows (sh u)))) in
      let e = total_most z.n z.n (λ u. count z.n (λ d. not (over (sh u) d))) (λ u. count_most z.n (λ d. not (over (sh u) d))) in
      omega arith

  -- an event that is not counted changes nothing
  same_ignored : (σ : System) (u : ℕ) (came : ℕ → Bool) (R : Reply) → Ignored R → ((j : ℕ) → came j ≡ σ.came j) → Same σ (go_on σ u came R)
  same_ignored σ u came R i h = subst (λ x. Same σ x) (sym (ignored_stays σ u came R i)) (record { routers = λ v. refl; said = refl; came = h })

  -- a message that has come is ignored when it comes again
  heard_again : (σ : System) (H : Held z r F.calm.gone σ) (k : ℕ) (m : Sent) → nth σ.said k ≡ Some m → σ.came k ≡ true → Ignored (hear (σ.routers m.to) m.from m.message)
  heard_again σ H k m e was = subst (λ (s : Router). Ignored (hear s m.from m.message)) (sym (H.inv.is m.to (H.inv.inside k m e))) (elim (H.inv.sound k m e) [
    | inl h ↦ go m.message h (H.inv.taken k m e was)
    | inr h ↦ stale_build z r F.calm.gone m.to m.from (H.inv.shape m.to) m.message h
  ])
    where
      go : (M : Message) → Honest z r H.inv.shape m.from m.to M → Taken r (H.inv.shape m.to) M → Ignored (hear (build z r F.calm.gone m.to (H.inv.shape m.to)) m.from M)
      go (LinkDown l) h t =
          subst (λ x. Ignored (hear (build z r F.calm.gone m.to (H.inv.shape m.to)) m.from (LinkDown x))) (sym h)
          (subst Ignored (sym (down_known z r F.calm.gone F.there m.to m.from (H.inv.shape m.to) (t (ap (λ x. same_link r x) h ∙ joins_self r)))) tt)
      go (message.Switched n) h t =
          let s = build z r F.calm.gone m.to (H.inv.shape m.to) in
          let noted = t (ap (λ x. same_link r x) h.0 ∙ joins_self r) in
          subst (λ x. Ignored (hear s m.from (message.Switched (record n { link = x })))) (sym h.0)
          (subst (λ x. Ignored (hear s x (message.Switched (record n { link = r })))) (sym h.1)
          (subst Ignored (sym (over_noted z r F.calm.gone F.there m.to n.from n.destination (H.inv.shape m.to) noted)) tt))

  idle_arrive : (σ : System) (H : Held z r F.calm.gone σ) (k : ℕ) (M : Option Sent) → nth σ.said k ≡ M → (is_some M && not (σ.came k)) ≡ false → Same σ (arrive σ k M)
  idle_arrive σ H k None e n = record { routers = λ v. refl; said = refl; came = λ j. refl }
  idle_arrive σ H k (Some m) e n =
      let was = not-false (σ.came k) n in
      same_ignored σ m.to (λ j. eqb j k || σ.came j) (hear (σ.routers m.to) m.from m.message) (heard_again σ H k m e was)
      (λ j. elim (cases_Bool (eqb j k)) [
        | inl q ↦ or_left (eqb j k) (σ.came j) q ∙ sym (subst (λ x. σ.came x ≡ true) (sym (eqb-true j k q)) was)
        | inr q ↦ ap (λ b. b || σ.came j) q
      ])

  idle_switch : (s : Router) (d : ℕ) (o : Option Transition) → may_in s d o ≡ false → Ignored (switch_in s d o)
  idle_switch s d None n = tt
  idle_switch s d (Some t) n = subst Ignored (sym (cond-false (may_in s d (Some t)) (Goes (after_switch d t s) (says d t.link s)) Stays n)) tt

  idles : (e : Event) (σ : System) → Held z r F.calm.gone σ → changes e σ ≡ false → Same σ (step e σ)
  idles (Arrive k) σ H n = idle_arrive σ H k (nth σ.said k) refl n
  idles (Switch u d) σ H n = same_ignored σ u σ.came (switch (σ.routers u) d) (idle_switch (σ.routers u) d (σ.routers u).transition n) (λ j. refl)
  idles (Put q u p) σ H n = record { routers = λ v. refl; said = refl; came = λ j. refl }
  idles (Hop q) σ H n = record { routers = λ v. refl; said = refl; came = λ j. refl }

pub bounded : Bounded
bounded z r ω F es =
    let H = held_start z r ω F in
    let a = bounded_run z r ω F es (fails r ω) H in
    let b = todo_start z r ω F H.inv.shape in
    (omega arith, λ e n. idles z r ω F e (after r ω es) (held z r ω F es) n)
