-- The rule is kept, and what follows for the next hops in use.
use Rattle.std.proofs.Common.{◌≡◌, ℕ, zero, suc, ◌<◌, Bool, true, false, cond, not, ◌&&◌, ltb, List, Some, None, sym, refl, ap, ◌∙◌, subst, inl, inr}
use Rattle.std.proofs.lemmas.Bool.{both_ways, lt-ltb, cases_lt, cases_Bool, and_from, not_from_false}
use Rattle.protocol.specs.Hearing.{waits_for}
use Rattle.protocol.specs.Failed.{after, done_in, Failed}
use Rattle.protocol.specs.Order.{RuleKept, Waits, UntouchedSwitch, Afterwards}
use Rattle.protocol.specs.System.{System, Event}
use Rattle.protocol.specs.Router.{entry, Router, Transition}
use Rattle.protocol.specs.Switching.{none_below, may}
use Rattle.protocol.proofs.Invariant.{WaitsOk, OpenOk}
use Rattle.protocol.proofs.Touched.{waits_parts}
use Rattle.protocol.proofs.Shape.{transition_of, build, over_knows, entry_is, Shape, Unaware, Switching, Settled}
use Rattle.protocol.proofs.Steps.{held, done_is}
use Rattle.theory.specs.NextHop.{next_hop, uses}
use Rattle.theory.specs.Network.{without, Network, LinkId}
use Rattle.theory.proofs.NextHops.{next_hop_is}

pub rule_kept : RuleKept
rule_kept z r ω F es d u v t p s j =
    let σ = after r ω es in
    let H = held z r ω F es in
    let b = F.lawful.within u v (next_hop_is z d u v p).near.link in
    done_is z r ω F σ H d u b.0 ∙ H.inv.order d u v (sym (done_is z r ω F σ H d v b.1) ∙ t) p s j

pub afterwards : Afterwards
afterwards z r ω F es d u b =
    let σ = after r ω es in
    let H = held z r ω F es in
    ap (λ (s : Router). entry s d) (H.inv.is u b) ∙
    (entry_is z r F.calm.gone u d (H.inv.shape u) ∙ ap (λ b. next_hop (cond b (without r z) z) d u) (sym (done_is z r ω F σ H d u b)))

-- a router in a transition has that shape
record IsSwitching (z : Network) (r : LinkId) (ω : System) (F : Failed z r ω) (es : List Event) (u : ℕ) (t : Transition) : Type 0 where
  shape : (held z r ω F es).inv.shape u ≡ Switching t.switched t.pending
  is : (after r ω es).routers u ≡ build z r F.calm.gone u (Switching t.switched t.pending)

switching : (z : Network) (r : LinkId) (ω : System) (F : Failed z r ω) (es : List Event) (u : ℕ) (t : Transition) →
    ((after r ω es).routers u).transition ≡ Some t → IsSwitching z r ω F es u t
switching z r ω F es u t f = elim (cases_lt u z.n) [
  | inl b ↦ go b ((held z r ω F es).inv.shape u) refl
  | inr b ↦ absurd (no_transition (sym ((held z r ω F es).inv.others u b) ∙ f))
]
  where
    no_transition : None ≡ Some t → ⊥
    no_transition e = cc

    is : u < z.n → (S : Shape) → (held z r ω F es).inv.shape u ≡ S → (after r ω es).routers u ≡ build z r F.calm.gone u S
    is b S e = (held z r ω F es).inv.is u b ∙ ap (λ X. build z r F.calm.gone u X) e

    has : u < z.n → (S : Shape) → (held z r ω F es).inv.shape u ≡ S → (build z r F.calm.gone u S).transition ≡ Some t
    has b S e = sym (ap (λ (s : Router). s.transition) (is b S e)) ∙ f

    go : u < z.n → (S : Shape) → (held z r ω F es).inv.shape u ≡ S → IsSwitching z r ω F es u t
    go b (Unaware xs) e = absurd (no_transition (has b (Unaware xs) e))
    go b Settled e = absurd (no_transition (has b Settled e))
    go b (Switching sw pe) e =
        let k : transition_of r sw pe ≡ t = cc (has b (Switching sw pe) e) in
        let q = e ∙ ap (λ (x : Transition). Switching x.switched x.pending) k in
        record { shape = q; is = is b (Switching t.switched t.pending) q }

pub waits : Waits
waits z r ω F es v d u t f =
    let H = held z r ω F es in
    let s = switching z r ω F es v t f in (
      λ w n. elim (subst (λ X. WaitsOk z r H.inv.shape v X) s.shape (H.inv.waits v) d u w) [
        | inl y ↦ y
        | inr y ↦
            let is = done_is z r ω F (after r ω es) H d u (H.inv.nodes u (over_knows (H.inv.shape u) d y)) in
            absurd (both_ways (done_in r (after r ω es) d u) n (is ∙ y))
      ],
      (subst (λ X. OpenOk z r v X) s.shape (H.inv.unfinished v)).0 d u,
    )

none_from : (k : ℕ) (p : ℕ → Bool) → ((u : ℕ) → p u ≡ false) → none_below k p ≡ true
unfolding none_below
none_from zero p h = refl
none_from (suc k) p h = and_from (not (p k)) (none_below k p) (not_from_false (p k) (h k)) (none_from k p h)

pub may_from : (z : Network) (r : LinkId) (G : ℕ → List LinkId) (u d : ℕ) (sw : ℕ → Bool) (pe : ℕ → ℕ → Bool) → d < z.n → sw d ≡ false → ((v : ℕ) → pe d v ≡ false) → may (build z r G u (Switching sw pe)) d ≡ true
may_from z r G u d sw pe b n none =
    and_from (ltb d z.n) (not (sw d) && none_below z.n (pe d)) (lt-ltb d z.n b) (and_from (not (sw d)) (none_below z.n (pe d)) (not_from_false (sw d) n) (none_from z.n (pe d) none))

-- nobody is pending for a destination to which the router's own path does not use the link
pub none_pending : (z : Network) (r : LinkId) (d u : ℕ) (pe : ℕ → ℕ → Bool) → ((v : ℕ) → pe d v ≡ true → waits_for z r d u v ≡ true) → uses z r d u ≡ false → (v : ℕ) → pe d v ≡ false
none_pending z r d u pe h t v = elim (cases_Bool (pe d v)) [ inr q ↦ q | inl q ↦ absurd (both_ways (uses z r d u) t (waits_parts z r d u v (h v q)).0) ]

pub untouched_switch : UntouchedSwitch
untouched_switch z r ω F es u d b t f old n =
    let s = switching z r ω F es u t f in
    let o = subst (λ X. OpenOk z r u X) s.shape ((held z r ω F es).inv.unfinished u) in
    ap (λ (x : Router). may x d) s.is ∙
    may_from z r F.calm.gone u d t.switched t.pending b n (none_pending z r d u t.pending (λ v. o.0 d v) old)
