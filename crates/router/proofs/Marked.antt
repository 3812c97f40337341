-- A router that may switch for a destination, and does.
use Rattle.std.proofs.Common.{◌≡◌, ℕ, ◌<◌, Bool, true, false, not, ◌&&◌, ◌||◌, eqb, ltb, List, ◌++◌, Some, None, Option, ◌∷◌, sym, refl, ap, subst, ◌∙◌, inl, inr}
use mathlib.Core.Path.{fun_ext}
use Rattle.std.proofs.lemmas.Bool.{both_ways, cases_eq, eq-eqb, ne_eqb, lt-ltb, ltb-true, and_from, and_parts, cond-true, cond-false}
use Rattle.protocol.specs.Hearing.{unwait}
use Rattle.protocol.specs.Router.{idle, known_failure, Router, Transition, Stays, Goes}
use Rattle.protocol.specs.Switching.{after_switch, all_below, mark, may, may_in, none_below, says, switch, switch_in}
use Rattle.router.proofs.Heard.{known}
use Rattle.router.specs.Hearing.{Unwaits}
use Rattle.router.specs.Replies.{Accepted}
use Rattle.router.specs.Switching.{Switches, TakesOut}
use Rattle.theory.specs.Network.{LinkId, without}
use Rattle.types.specs.declared.message.Sent.{Sent}

-- a set with d in it too
pub marked : (d : ℕ) (f g : ℕ → Bool) → d < 64 → ((v : ℕ) → g v ≡ ((eqb v d && ltb v 64) || f v)) → g ≡ mark d f
marked d f g few h = fun_ext (λ v. h v ∙ ap (λ b. b || f v) (below v))
  where
    below : (v : ℕ) → (eqb v d && ltb v 64) ≡ eqb v d
    below v = elim (cases_eq v d) [
      | inl e ↦ and_from (eqb v d) (ltb v 64) (eq-eqb v d e) (lt-ltb v 64 (subst (λ k. k < 64) (sym e) few)) ∙ sym (eq-eqb v d e)
      | inr e ↦ ap (λ b. b && ltb v 64) (ne_eqb v d e) ∙ sym (ne_eqb v d e)
    ]

pub same_transition : (o : Option Transition) (t u : Transition) → o ≡ Some t → o ≡ Some u → t ≡ u
same_transition o t u h k = go (sym h ∙ k)
  where
    go : Some t ≡ Some u → t ≡ u
    go e = cc

-- it has switched for one destination more
pub switches_more : (s : Router) (d : ℕ) (t : Transition) (sw : ℕ → Bool) → s.transition ≡ Some t → all_below s.links.n (mark d t.switched) ≡ false → sw ≡ mark d t.switched →
    Switches d s (record s { transition = Some (record t { switched = sw }) })
switches_more s d t sw h a e u k =
    ap (λ f. record s { transition = Some (record t { switched = f }) }) e ∙
    (sym (cond-false (all_below s.links.n (mark d t.switched)) (idle (without t.link s.links) (t.link ∷ s.removed) s.me) (record s { transition = Some (record t { switched = mark d t.switched }) }) a) ∙
    ap (λ x. after_switch d x s) (same_transition s.transition t u h k))

-- and for the last one
pub switches_last : (s new : Router) (d : ℕ) (l : LinkId) → known_failure s ≡ Some l → ((t : Transition) → s.transition ≡ Some t → all_below s.links.n (mark d t.switched) ≡ true) → TakesOut l s new → Switches d s new
switches_last s new d l h a out t k =
    let j = known s.transition l (sym h) in
    let e : l ≡ t.link = j.link ∙ ap (λ (x : Transition). x.link) (same_transition s.transition j.transition t j.is k) in
    out ∙ (ap (λ x. idle (without x s.links) (x ∷ s.removed) s.me) e ∙
    sym (cond-true (all_below s.links.n (mark d t.switched)) (idle (without t.link s.links) (t.link ∷ s.removed) s.me) (record s { transition = Some (record t { switched = mark d t.switched }) }) (a t k)))

-- it goes on as the protocol's router does
pub switches_over : (s new : Router) (d : ℕ) (l : LinkId) (before after : List Sent) → known_failure s ≡ Some l → may s d ≡ true → Switches d s new → after ≡ before ++ says d l s → Accepted (switch s d) s new before after
switches_over s new d l before after h m sw a =
    let k = known s.transition l (sym h) in
    let e : switch s d ≡ Goes (after_switch d k.transition s) (says d k.transition.link s) =
    ap (switch_in s d) k.is ∙ cond-true (may_in s d (Some k.transition)) (Goes (after_switch d k.transition s) (says d k.transition.link s)) Stays (sym (ap (may_in s d) k.is) ∙ m) in
    subst (λ r. Accepted r s new before after) (sym e) (sw k.transition k.is, a ∙ ap (λ x. before ++ says d x s) k.link)

-- for a destination in the network alone
pub may_within : (s : Router) (d : ℕ) → may s d ≡ true → d < s.links.n
may_within s d m = go s.transition m
  where
    go : (o : Option Transition) → may_in s d o ≡ true → d < s.links.n
    go None h = absurd (both_ways false refl h)
    go (Some t) h = ltb-true d s.links.n (and_parts (ltb d s.links.n) (not (t.switched d) && none_below s.links.n (t.pending d)) h).0

-- it no longer waits for u to switch for d
pub unwaits : (s : Router) (t : Transition) (d u : ℕ) (pe : ℕ → ℕ → Bool) → s.transition ≡ Some t → ((e v : ℕ) → pe e v ≡ (t.pending e v && not (eqb e d && eqb v u))) →
    Unwaits u d s (record s { transition = Some (record t { pending = pe }) })
unwaits s t d u pe h k x j =
    ap (λ f. record s { transition = Some (record t { pending = f }) }) (fun_ext (λ e. fun_ext (k e))) ∙
    ap (λ y. record s { transition = Some (unwait u d y) }) (same_transition s.transition t x h j)
