-- The four ways in which a router changes: it learns, it keeps an early message, it no longer waits for a neighbour, it switches.
use Rattle.std.proofs.Common.{◌≡◌, ℕ, zero, suc, ◌<◌, Bool, true, false, cond, not, ◌&&◌, eqb, ◌⊎◌, List, [], ◌∷◌, ◌++◌, Some, sym, refl, ap, ◌∙◌, subst, inl, inr, arith}
use Rattle.std.proofs.lemmas.Bool.{both_ways, not-true, eqb-true, eq-eqb, and_parts, cases_eq, cases_Bool, and_from, and_left, and_right, or_cases, or_left, or_right, not_from_true, not_from_false}
use Rattle.protocol.specs.Hearing.{waits_for, came_early, tell}
use Rattle.protocol.specs.Order.{InOrder}
use Rattle.protocol.specs.System.{nth, go_on, System}
use Rattle.protocol.specs.Router.{same_link, Goes}
use Rattle.protocol.specs.Switching.{none_below, all_below, mark, after_switch, says}
use Rattle.protocol.proofs.Said.{no_message, nth_new, down_to, switched_for, over_to, tell_is, tell_has, say_is, say_has}
use Rattle.protocol.proofs.Invariant.{done_of, put_at, put_all, put_own, Honest, EarlyOk, WaitsOk, OpenOk, Noted, SpokeBy, Newly, waits_more, change, Inv, Later, grows, order_same, told_same, spoke_old}
use Rattle.protocol.proofs.Touched.{uses_on, dest_inside, waits_from}
use Rattle.protocol.proofs.Shape.{transition_of, build, over, knows, Shape, Unaware, Switching, Settled}
use Rattle.protocol.proofs.Links.{joins_self}
use Rattle.protocol.proofs.Enough.{Grows}
use Rattle.theory.specs.NextHop.{next_hop, uses}
use Rattle.theory.specs.Network.{joins, Network, Lawful, LinkId}
use Rattle.theory.proofs.NextHops.{next_hop_is}
use Rattle.theory.proofs.Without.{link_kept}
use Rattle.types.specs.declared.message.Sent.{Sent}
use Rattle.types.specs.declared.message.Switched.{Switched}

early_more : (r : LinkId) (d u : ℕ) (e : Switched) (es : List Switched) → came_early r d u es ≡ true → came_early r d u (e ∷ es) ≡ true
unfolding came_early
early_more r d u e es h = or_right (same_link r e.link && (eqb d e.destination && eqb u e.from)) (came_early r d u es) h

pub early_none : (r : LinkId) (d u : ℕ) → came_early r d u [] ≡ false
unfolding came_early
early_none r d u = refl

pub early_new : (r : LinkId) (d u : ℕ) (es : List Switched) → came_early r d u (switched_for r u d ∷ es) ≡ true
unfolding came_early
early_new r d u es =
    or_left (same_link r r && (eqb d d && eqb u u)) (came_early r d u es)
    (and_from (same_link r r) (eqb d d && eqb u u) (joins_self r) (and_from (eqb d d) (eqb u u) (eq-eqb d d refl) (eq-eqb u u refl)))

early_is : (r : LinkId) (d u d' u' : ℕ) (es : List Switched) →
    came_early r d' u' (switched_for r u d ∷ es) ≡ true → ((d' ≡ d) × (u' ≡ u)) ⊎ (came_early r d' u' es ≡ true)
unfolding came_early
early_is r d u d' u' es h = elim (or_cases (same_link r r && (eqb d' d && eqb u' u)) (came_early r d' u' es) h) [
  | inr t ↦ inr t
  | inl t ↦
      let b = and_parts (eqb d' d) (eqb u' u) (and_parts (same_link r r) (eqb d' d && eqb u' u) t).1 in
      inl (eqb-true d' d b.0, eqb-true u' u b.1)
]

all_none : (k : ℕ) → 0 < k → all_below k (λ d. false) ≡ false
unfolding all_below
all_none zero h = absurd (omega arith)
all_none (suc k) h = refl

all_at : (k : ℕ) (p : ℕ → Bool) → all_below k p ≡ true → (d : ℕ) → d < k → p d ≡ true
unfolding all_below
all_at zero p h d b = absurd (omega arith)
all_at (suc k) p h d b =
    let t = and_parts (p k) (all_below k p) h in
    elim (cases_eq d k) [ inl e ↦ subst (λ x. p x ≡ true) (sym e) t.0 | inr e ↦ all_at k p t.1 d (omega arith) ]

pub none_at : (k : ℕ) (p : ℕ → Bool) → none_below k p ≡ true → (d : ℕ) → d < k → p d ≡ false
unfolding none_below
none_at zero p h d b = absurd (omega arith)
none_at (suc k) p h d b =
    let t = and_parts (not (p k)) (none_below k p) h in
    elim (cases_eq d k) [ inl e ↦ subst (λ x. p x ≡ false) (sym e) (not-true (p k) t.0) | inr e ↦ none_at k p t.1 d (omega arith) ]

-- the shapes after learning, keeping and hearing
abbrev pub learned : Network → LinkId → ℕ → List Switched → Shape
learned z r w es = Switching (λ d. false) (λ d u. waits_for z r d w u && not (came_early r d u es))

abbrev pub kept : LinkId → ℕ → ℕ → List Switched → Shape
kept r u d es = Unaware (switched_for r u d ∷ es)

abbrev pub unwaited : ℕ → ℕ → (ℕ → Bool) → (ℕ → ℕ → Bool) → Shape
unwaited u d sw pe = Switching sw (λ e v. pe e v && not (eqb e d && eqb v u))

module _ (z : Network) (g : Lawful z) (r : LinkId) (G : ℕ → List LinkId) (σ : System) (I : Inv z r G σ) (w : ℕ) (bw : w < z.n) (came : ℕ → Bool) (cs : (k : ℕ) → came k ≡ true → (m : Sent) × (nth σ.said k ≡ Some m)) where
  pub learns : (es : List Switched) → I.shape w ≡ Unaware es → Newly r σ came (put_at w (learned z r w es) I.shape) →
      Later z r G σ I (go_on σ w came (Goes (build z r G w (learned z r w es)) (tell z r w z.n)))
  learns es was nw =
      change z r G σ I w (Unaware es) (learned z r w es) (tell z r w z.n) came
      (record {
        was = was;
        inside = bw;
        keeps_done = λ d h. absurd (both_ways false refl h);
        keeps_known = λ h. refl;
        keeps_noted = λ d u h. and_right (waits_for z r d w u) (not (came_early r d u es)) (not_from_true (came_early r d u es) h);
        honest = λ k m e. subst (λ (x : Sent). Honest z r (put_at w (learned z r w es) I.shape) x.from x.to x.message) (sym (tell_is z r w z.n k m e).1) refl;
        within = λ k m e. let t = tell_is z r w z.n k m e in subst (λ (x : Sent). x.to < z.n) (sym t.1) t.2;
        early = tt;
        waits = λ d u h. elim (cases_Bool (came_early r d u es)) [
          | inl q ↦
              inr (grows z r G σ I w (Unaware es) (learned z r w es) was (λ d h. absurd (both_ways false refl h)) d u (subst (λ X. EarlyOk r I.shape X) was (I.early w) d u q))
          | inr q ↦ inl (and_from (waits_for z r d w u) (not (came_early r d u es)) h (not_from_false (came_early r d u es) q))
        ];
        order = order_same z r G σ I w (Unaware es) (learned z r w es) was (λ d. refl);
        unfinished = (λ d u h. (and_parts (waits_for z r d w u) (not (came_early r d u es)) h).0, all_none z.n (omega arith));
        came_said = cs;
        newly = nw;
        told = λ _ v c.
            let t = tell_has z r w z.n v (g.within w v (link_kept r z w v c)).1 c in
            nth_new σ.said (tell z r w z.n) t.0 (down_to r w v) t.1;
        spoke = λ d v h. absurd (both_ways false refl h);
      })

  pub keeps : (es : List Switched) → I.shape w ≡ Unaware es → (u d : ℕ) → over (I.shape u) d ≡ true → Newly r σ came (put_at w (kept r u d es) I.shape) →
      Later z r G σ I (go_on σ w came (Goes (build z r G w (kept r u d es)) []))
  keeps es was u d o nw =
      change z r G σ I w (Unaware es) (kept r u d es) [] came
      (record {
        was = was;
        inside = bw;
        keeps_done = λ e h. h;
        keeps_known = λ h. h;
        keeps_noted = λ e v h. early_more r e v (switched_for r u d) es h;
        honest = λ k m e. absurd (no_message k m e);
        within = λ k m e. absurd (no_message k m e);
        early = λ e v h.
            grows z r G σ I w (Unaware es) (kept r u d es) was (λ e h. h) e v (elim (early_is r d u e v es h) [
              | inl q ↦ subst (λ x. over (I.shape x) e ≡ true) (sym q.1) (subst (λ x. over (I.shape u) x ≡ true) (sym q.0) o)
              | inr q ↦ subst (λ X. EarlyOk r I.shape X) was (I.early w) e v q
            ]);
        waits = tt;
        order = order_same z r G σ I w (Unaware es) (kept r u d es) was (λ e. refl);
        unfinished = tt;
        came_said = cs;
        newly = nw;
        told = told_same z r G σ I w (Unaware es) (kept r u d es) was (λ h. h) [];
        spoke = spoke_old z r G σ I w (Unaware es) (kept r u d es) was [];
      })

  pub unwaits : (sw : ℕ → Bool) (pe : ℕ → ℕ → Bool) → I.shape w ≡ Switching sw pe → (u d : ℕ) → over (I.shape u) d ≡ true → Newly r σ came (put_at w (unwaited u d sw pe) I.shape) →
      Later z r G σ I (go_on σ w came (Goes (build z r G w (unwaited u d sw pe)) []))
  unwaits sw pe was u d o nw =
      change z r G σ I w (Switching sw pe) (unwaited u d sw pe) [] came
      (record {
        was = was;
        inside = bw;
        keeps_done = λ e h. h;
        keeps_known = λ h. h;
        keeps_noted = λ e v h. and_left (pe e v) (not (eqb e d && eqb v u)) h;
        honest = λ k m e. absurd (no_message k m e);
        within = λ k m e. absurd (no_message k m e);
        early = tt;
        waits = waits';
        order = order_same z r G σ I w (Switching sw pe) (unwaited u d sw pe) was (λ e. refl);
        unfinished = let f = subst (λ X. OpenOk z r w X) was (I.unfinished w) in (λ e v h. f.0 e v (and_parts (pe e v) (not (eqb e d && eqb v u)) h).0, f.1);
        came_said = cs;
        newly = nw;
        told = told_same z r G σ I w (Switching sw pe) (unwaited u d sw pe) was (λ h. h) [];
        spoke = spoke_old z r G σ I w (Switching sw pe) (unwaited u d sw pe) was [];
      })
    where
      more : Grows (done_of I.shape) (done_of (put_at w (unwaited u d sw pe) I.shape))
      more = grows z r G σ I w (Switching sw pe) (unwaited u d sw pe) was (λ e h. h)

      waits' : WaitsOk z r (put_at w (unwaited u d sw pe) I.shape) w (unwaited u d sw pe)
      waits' e v h = elim (subst (λ X. WaitsOk z r I.shape w X) was (I.waits w) e v h) [
        | inr q ↦ inr (more e v q)
        | inl q ↦ elim (cases_Bool (eqb e d && eqb v u)) [
          | inr t ↦ inl (and_from (pe e v) (not (eqb e d && eqb v u)) q (not_from_false (eqb e d && eqb v u) t))
          | inl t ↦
              let b = and_parts (eqb e d) (eqb v u) t in
              inr (more e v (subst (λ x. over (I.shape x) e ≡ true) (sym (eqb-true v u b.1)) (subst (λ x. over (I.shape u) x ≡ true) (sym (eqb-true e d b.0)) o)))
        ]
      ]

-- a router that may switches for d
module _ (z : Network) (g : Lawful z) (r : LinkId) (G : ℕ → List LinkId) (σ : System) (I : Inv z r G σ) (w : ℕ) (bw : w < z.n) (sw : ℕ → Bool) (pe : ℕ → ℕ → Bool) (was : I.shape w ≡ Switching sw pe) (d : ℕ) (none : none_below z.n (pe d) ≡ true) where
  wait0 : (e u : ℕ) → waits_for z r e w u ≡ true → (pe e u ≡ true) ⊎ (over (I.shape u) e ≡ true)
  wait0 = subst (λ X. WaitsOk z r I.shape w X) was (I.waits w)

  -- who is waited for has switched for d
  waited : (u : ℕ) → next_hop z d u ≡ Some w → uses z r d u ≡ true → joins r u w ≡ false → over (I.shape u) d ≡ true
  waited u p t j = elim (wait0 d u (waits_from z r d w u (uses_on z g r d u w p t j) p t)) [
    | inr y ↦ y
    | inl y ↦ absurd (both_ways (pe d u) (none_at z.n (pe d) none u (g.within u w (next_hop_is z d u w p).near.link).0) y)
  ]

  -- to a shape that has switched for d, and below n for nothing else that is new
  switched_to : (S : Shape) → ((e : ℕ) → e < z.n → over S e ≡ true → mark d sw e ≡ true) → ((e : ℕ) → mark d sw e ≡ true → over S e ≡ true) → knows S ≡ true → ((e u : ℕ) → pe e u ≡ false → Noted r S e u) →
      EarlyOk r (put_at w S I.shape) S → (Grows (done_of I.shape) (done_of (put_at w S I.shape)) → WaitsOk z r (put_at w S I.shape) w S) → OpenOk z r w S →
      Later z r G σ I (go_on σ w σ.came (Goes (build z r G w S) (says d r (build z r G w (Switching sw pe)))))
  switched_to S back forth kn nt ea wa op =
      change z r G σ I w (Switching sw pe) S new σ.came
      (record {
        was = was;
        inside = bw;
        keeps_done = kd;
        keeps_known = λ h. kn;
        keeps_noted = nt;
        honest = λ k m e.
            let t = say_is z g r w d k m e in
            subst (λ (x : Sent). Honest z r (put_at w S I.shape) x.from x.to x.message) (sym t.1) (refl, refl, here, t.3);
        within = λ k m e. let t = say_is z g r w d k m e in subst (λ (x : Sent). x.to < z.n) (sym t.1) t.2;
        early = ea;
        waits = wa more;
        order = order';
        unfinished = op;
        came_said = I.came_said;
        newly = λ k m e c. inl c;
        told = told_same z r G σ I w (Switching sw pe) S was (λ h. refl) new;
        spoke = spoke';
      })
    where
      new : List Sent
      new = says d r (build z r G w (Switching sw pe))

      kd : (e : ℕ) → sw e ≡ true → over S e ≡ true
      kd e h = forth e (or_right (eqb e d) (sw e) h)

      more : Grows (done_of I.shape) (done_of (put_at w S I.shape))
      more = grows z r G σ I w (Switching sw pe) S was kd

      here : over (put_at w S I.shape w) d ≡ true
      here = subst (λ X. over X d ≡ true) (sym (put_own w S I.shape)) (forth d (or_left (eqb d d) (sw d) (eq-eqb d d refl)))

      order' : InOrder z r (done_of (put_at w S I.shape))
      order' e a b h p t j =
          more e a
          (put_all (λ v X. next_hop z e a ≡ Some v → joins r a v ≡ false → over X e ≡ true → over (I.shape a) e ≡ true) w S I.shape
          (λ p j o. elim (or_cases (eqb e d) (sw e) (back e (dest_inside z g e a w p) o)) [
            | inr q ↦ I.order e a w (subst (λ X. over X e ≡ true) (sym was) q) p t j
            | inl q ↦
                let x = eqb-true e d q in
                subst (λ y. over (I.shape a) y ≡ true) (sym x) (waited a (subst (λ y. next_hop z y a ≡ Some w) x p) (subst (λ y. uses z r y a ≡ true) x t) j)
          ])
          b (λ p j o. I.order e a b o p t j) p j h)

      spoke' : SpokeBy z r (σ.said ++ says d r (build z r G w (Switching sw pe))) w S
      spoke' e v o t p j = elim (or_cases (eqb e d) (sw e) (back e (dest_inside z g e w v p) o)) [
        | inr q ↦ spoke_old z r G σ I w (Switching sw pe) S was new e v q t p j
        | inl q ↦
            let x = eqb-true e d q in
            nth_new σ.said new 0 (over_to r w v e) (say_has z r w d v (subst (λ y. uses z r y w ≡ true) x t) (subst (λ y. next_hop z y w ≡ Some v) x p) j ∙ ap (λ y. Some (over_to r w v y)) (sym x))
      ]

  pub switches :
      let s = build z r G w (Switching sw pe) in
      Later z r G σ I (go_on σ w σ.came (Goes (after_switch d (transition_of r sw pe) s) (says d r s)))
  switches = go (all_below z.n (mark d sw)) refl
    where
      go : (b : Bool) → all_below z.n (mark d sw) ≡ b →
          let s' = cond b (build z r G w Settled) (build z r G w (Switching (mark d sw) pe)) in
          Later z r G σ I (go_on σ w σ.came (Goes s' (says d r (build z r G w (Switching sw pe)))))
      go true e = switched_to Settled (λ x b _. all_at z.n (mark d sw) e x b) (λ x _. refl) refl (λ x u h. tt) tt (λ more. tt) tt
      go false e =
          switched_to (Switching (mark d sw) pe) (λ x b h. h) (λ x h. h) refl (λ x u h. h) tt
          (λ more. waits_more z r I.shape (put_at w (Switching (mark d sw) pe) I.shape) more w (Switching (mark d sw) pe) wait0) ((subst (λ X. OpenOk z r w X) was (I.unfinished w)).0, e)
