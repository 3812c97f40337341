-- The invariant holds when the link has failed, and each event keeps it.
use Rattle.std.proofs.Common.{◌≡◌, ℕ, ◌<◌, Bool, true, false, not, ◌&&◌, ◌||◌, eqb, ltb, List, [], ◌∷◌, is_some, Some, None, Option, sym, refl, ap, ◌∙◌, subst, inl, inr}
use Rattle.std.proofs.lemmas.Bool.{both_ways, eqb-true, eq-eqb, cases_lt, and_parts, cases_Bool, and_from, and_right, or_cases, not_from_true, not_from_false, cond-true, cond-false, cond_both}
use Rattle.protocol.specs.Hearing.{waits_for, came_early, tell, switched_while, hear}
use Rattle.protocol.specs.Failed.{Stale, after, done_in, Calm, Failed}
use Rattle.protocol.specs.System.{nth, go_on, arrive, moved, put_on, set_flight, step, run, notices, fails, System, Event, Arrive, Switch, Put, Hop}
use Rattle.protocol.specs.Router.{same_link, has_link, has_switched, Router, Reply, Refused, Stays, Goes}
use Rattle.protocol.specs.Switching.{none_below, may, after_switch, says, switch_in, switch}
use Rattle.protocol.proofs.Said.{same_message, switched_for, over_by}
use Rattle.protocol.proofs.Invariant.{put_at, put_own, Honest, Noted, Taken, Newly, unchanged, Inv, Later}
use Rattle.protocol.proofs.Shape.{transition_of, build, over, knows, switched_is, Shape, Unaware, Switching, Settled}
use Rattle.protocol.proofs.Links.{joins_self, link_gone, link_there, still_gone, other_link, among_first, stale_ignored, Ignored, ignored_stays, stale_heard}
use Rattle.protocol.proofs.Changes.{early_none, early_new, learned, kept, unwaited, learns, keeps, unwaits, switches}
use Rattle.theory.specs.Network.{joins, without, Network, Lawful, LinkId}
use Rattle.theory.proofs.Joins.{joins_ends}
use Rattle.types.specs.declared.fault.Refusal.TheVariants.{NotPending}
use Rattle.types.specs.declared.message.Message.{Message}
use Rattle.types.specs.declared.message.Message.TheVariants.{LinkDown}
use Rattle.types.specs.declared.message.Message.TheVariants as message
use Rattle.types.specs.declared.message.Sent.{Sent}
use Rattle.types.specs.declared.message.Switched.{Switched}

-- a message about another link has not to be heard
stale_taken : (z : Network) → Lawful z → (r : LinkId) → 0 < z.cost r.a r.b → (S : Shape) (m : Message) → Stale z m → Taken r S m
stale_taken z g r pos S (LinkDown l) n = λ h. absurd (both_ways (same_link r l) (other_link z g r l pos n) h)
stale_taken z g r pos S (message.Switched m) n = λ h. absurd (both_ways (same_link r m.link) (other_link z g r m.link pos n) h)

stale_without : (z : Network) (r : LinkId) (m : Message) → Stale z m → Stale (without r z) m
stale_without z r (LinkDown l) n = still_gone z r l n
stale_without z r (message.Switched m) n = still_gone z r m.link n

pub stale_build : (z : Network) (r : LinkId) (G : ℕ → List LinkId) (w v : ℕ) (S : Shape) (m : Message) → Stale z m → Ignored (hear (build z r G w S) v m)
stale_build z r G w v (Unaware es) m n = stale_heard (build z r G w (Unaware es)) v m n
stale_build z r G w v (Switching sw pe) m n = stale_heard (build z r G w (Switching sw pe)) v m n
stale_build z r G w v Settled m n = stale_heard (build z r G w Settled) v m (stale_without z r m n)

-- what a router of each shape replies to LinkDown for the failed link
pub down_unaware : (z : Network) (r : LinkId) (G : ℕ → List LinkId) → 0 < z.cost r.a r.b → (w v : ℕ) (es : List Switched) →
    hear (build z r G w (Unaware es)) v (LinkDown r) ≡ Goes (build z r G w (learned z r w es)) (tell z r w z.n)
down_unaware z r G pos w v es = cond-true (has_link z r) _ _ (link_there z r pos)

pub down_known : (z : Network) (r : LinkId) (G : ℕ → List LinkId) → 0 < z.cost r.a r.b → (w v : ℕ) (S : Shape) → knows S ≡ true → hear (build z r G w S) v (LinkDown r) ≡ Stays
down_known z r G pos w v (Unaware es) k = absurd (both_ways false refl k)
down_known z r G pos w v (Switching sw pe) k =
    cond-true (has_link z r) _ _ (link_there z r pos) ∙ cond-true (same_link r r) _ _ (joins_self r)
down_known z r G pos w v Settled k = ((stale_ignored (build z r G w Settled) r (link_gone z r) v).taken (among_first r (G w))).0

-- and to Switched from u
over_reply : (z : Network) (r : LinkId) (G : ℕ → List LinkId) → 0 < z.cost r.a r.b → (w u d : ℕ) (S : Shape) → (build z r G w S).links ≡ z →
    hear (build z r G w S) u (over_by r u d) ≡ switched_while (switched_for r u d) (build z r G w S) (build z r G w S).transition
over_reply z r G pos w u d S e =
    let s = build z r G w S in
    cond-true (has_link s.links r) _ _ (ap (λ (x : Network). has_link x r) e ∙ link_there z r pos) ∙
    cond-true (eqb u u) _ _ (eq-eqb u u refl)

pub over_noted : (z : Network) (r : LinkId) (G : ℕ → List LinkId) → 0 < z.cost r.a r.b → (w u d : ℕ) (S : Shape) → Noted r S d u →
    hear (build z r G w S) u (over_by r u d) ≡ Refused NotPending
over_noted z r G pos w u d (Unaware es) n =
    over_reply z r G pos w u d (Unaware es) refl ∙
    cond-false (waits_for z r d w u && not (came_early r d u es)) _ _
    (and_right (waits_for z r d w u) (not (came_early r d u es)) (not_from_true (came_early r d u es) n))
over_noted z r G pos w u d (Switching sw pe) n =
    over_reply z r G pos w u d (Switching sw pe) refl ∙ cond-false (same_link r r && pe d u) _ _ (and_right (same_link r r) (pe d u) n)
over_noted z r G pos w u d Settled n =
    ((stale_ignored (build z r G w Settled) r (link_gone z r) u).taken (among_first r (G w))).1 (switched_for r u d) refl

-- where it waits for u
over_early : (z : Network) (r : LinkId) (G : ℕ → List LinkId) → 0 < z.cost r.a r.b → (w u d : ℕ) (es : List Switched) →
    waits_for z r d w u ≡ true → came_early r d u es ≡ false →
    hear (build z r G w (Unaware es)) u (over_by r u d) ≡ Goes (build z r G w (kept r u d es)) []
over_early z r G pos w u d es t n =
    over_reply z r G pos w u d (Unaware es) refl ∙
    cond-true (waits_for z r d w u && not (came_early r d u es)) _ _
    (and_from (waits_for z r d w u) (not (came_early r d u es)) t (not_from_false (came_early r d u es) n))

over_pending : (z : Network) (r : LinkId) (G : ℕ → List LinkId) → 0 < z.cost r.a r.b → (w u d : ℕ) (sw : ℕ → Bool) (pe : ℕ → ℕ → Bool) → pe d u ≡ true →
    hear (build z r G w (Switching sw pe)) u (over_by r u d) ≡ Goes (build z r G w (unwaited u d sw pe)) []
over_pending z r G pos w u d sw pe t =
    over_reply z r G pos w u d (Switching sw pe) refl ∙
    cond-true (same_link r r && pe d u) _ _ (and_from (same_link r r) (pe d u) (joins_self r) t)

module _ (z : Network) (g : Lawful z) (r : LinkId) (pos : 0 < z.cost r.a r.b) (G : ℕ → List LinkId) where
  -- a reply that changes nothing
  ignores : (σ : System) (I : Inv z r G σ) (w : ℕ) (came : ℕ → Bool) → ((k : ℕ) → came k ≡ true → (m : Sent) × (nth σ.said k ≡ Some m)) → (R : Reply) → Ignored R → Newly r σ came I.shape → Later z r G σ I (go_on σ w came R)
  ignores σ I w came cs R i nw = subst (λ x. Later z r G σ I x) (sym (ignored_stays σ w came R i)) (unchanged z r G σ I came σ.flights cs nw)

  switch_later : (σ : System) (I : Inv z r G σ) (u d : ℕ) → Later z r G σ I (go_on σ u σ.came (switch (σ.routers u) d))
  switch_later σ I u d = elim (cases_lt u z.n) [
    | inl b ↦ subst (λ (s : Router). Later z r G σ I (go_on σ u σ.came (switch s d))) (sym (I.is u b)) (go b (I.shape u) refl)
    | inr b ↦ subst (λ o. Later z r G σ I (go_on σ u σ.came (switch_in (σ.routers u) d o))) (sym (I.others u b)) stays
  ]
    where
      stays : Later z r G σ I (go_on σ u σ.came Stays)
      stays = unchanged z r G σ I σ.came σ.flights I.came_said (λ k m e c. inl c)

      go : u < z.n → (S : Shape) → I.shape u ≡ S → Later z r G σ I (go_on σ u σ.came (switch (build z r G u S) d))
      go b (Unaware es) was = stays
      go b Settled was = stays
      go b (Switching sw pe) was =
          let s = build z r G u (Switching sw pe) in
          cond_both (may s d) (Goes (after_switch d (transition_of r sw pe) s) (says d r s)) Stays (λ R. Later z r G σ I (go_on σ u σ.came R))
          (λ t.
          let p = and_parts (ltb d z.n) (not (sw d) && none_below z.n (pe d)) t in
          switches z g r G σ I u b sw pe was d (and_parts (not (sw d)) (none_below z.n (pe d)) p.1).1)
          (λ t. stays)

  module _ (σ : System) (I : Inv z r G σ) (w : ℕ) (bw : w < z.n) (came : ℕ → Bool) (cs : (k : ℕ) → came k ≡ true → (m : Sent) × (nth σ.said k ≡ Some m)) where
    -- LinkDown for the failed link comes
    down_later : (v : ℕ) → ((sh : ℕ → Shape) → knows (sh w) ≡ true → Newly r σ came sh) → Later z r G σ I (go_on σ w came (hear (σ.routers w) v (LinkDown r)))
    down_later v nw = subst (λ (s : Router). Later z r G σ I (go_on σ w came (hear s v (LinkDown r)))) (sym (I.is w bw)) (go (I.shape w) refl)
      where
        known : (S : Shape) → I.shape w ≡ S → knows S ≡ true → Later z r G σ I (go_on σ w came (hear (build z r G w S) v (LinkDown r)))
        known S was k = ignores σ I w came cs (hear (build z r G w S) v (LinkDown r)) (subst Ignored (sym (down_known z r G pos w v S k)) tt) (nw I.shape (subst (λ X. knows X ≡ true) (sym was) k))

        go : (S : Shape) → I.shape w ≡ S → Later z r G σ I (go_on σ w came (hear (build z r G w S) v (LinkDown r)))
        go (Unaware es) was =
            subst (λ R. Later z r G σ I (go_on σ w came R)) (sym (down_unaware z r G pos w v es))
            (learns z g r G σ I w bw came cs es was (nw (put_at w (learned z r w es) I.shape) (subst (λ X. knows X ≡ true) (sym (put_own w (learned z r w es) I.shape)) refl)))
        go (Switching sw pe) was = known (Switching sw pe) was refl
        go Settled was = known Settled was refl

    -- Switched comes from u, whom w waits for
    over_later : (u d : ℕ) → over (I.shape u) d ≡ true → waits_for z r d w u ≡ true → ((sh : ℕ → Shape) → Noted r (sh w) d u → Newly r σ came sh) →
        Later z r G σ I (go_on σ w came (hear (σ.routers w) u (over_by r u d)))
    over_later u d o t nw = subst (λ (s : Router). Later z r G σ I (go_on σ w came (hear s u (over_by r u d)))) (sym (I.is w bw)) (go (I.shape w) refl)
      where
        put : (S : Shape) → Noted r S d u → Newly r σ came (put_at w S I.shape)
        put S n = nw (put_at w S I.shape) (subst (λ X. Noted r X d u) (sym (put_own w S I.shape)) n)

        noted : (S : Shape) → I.shape w ≡ S → Noted r S d u → Later z r G σ I (go_on σ w came (hear (build z r G w S) u (over_by r u d)))
        noted S was n =
            ignores σ I w came cs (hear (build z r G w S) u (over_by r u d)) (subst Ignored (sym (over_noted z r G pos w u d S n)) tt)
            (nw I.shape (subst (λ X. Noted r X d u) (sym was) n))

        go : (S : Shape) → I.shape w ≡ S → Later z r G σ I (go_on σ w came (hear (build z r G w S) u (over_by r u d)))
        go (Unaware es) was = elim (cases_Bool (came_early r d u es)) [
          | inl n ↦ noted (Unaware es) was n
          | inr n ↦
              subst (λ R. Later z r G σ I (go_on σ w came R)) (sym (over_early z r G pos w u d es t n)) (keeps z g r G σ I w bw came cs es was u d o (put (kept r u d es) (early_new r d u es)))
        ]
        go (Switching sw pe) was = elim (cases_Bool (pe d u)) [
          | inr n ↦ noted (Switching sw pe) was n
          | inl n ↦
              subst (λ R. Later z r G σ I (go_on σ w came R)) (sym (over_pending z r G pos w u d sw pe n))
              (unwaits z g r G σ I w bw came cs sw pe was u d o
              (put (unwaited u d sw pe) (and_right (pe d u) (not (eqb d d && eqb u u)) (not_from_true (eqb d d && eqb u u) (and_from (eqb d d) (eqb u u) (eq-eqb d d refl) (eq-eqb u u refl))))))
        ]
        go Settled was = noted Settled was tt

  arrive_later : (σ : System) (I : Inv z r G σ) (k : ℕ) (M : Option Sent) → nth σ.said k ≡ M → Later z r G σ I (arrive σ k M)
  arrive_later σ I k None e = unchanged z r G σ I σ.came σ.flights I.came_said (λ k m e c. inl c)
  arrive_later σ I k (Some m) e = elim (I.sound k m e) [
    | inl h ↦ go m.message refl h
    | inr h ↦
        ignores σ I m.to came cs (hear (σ.routers m.to) m.from m.message)
        (subst (λ (s : Router). Ignored (hear s m.from m.message)) (sym (I.is m.to (I.inside k m e))) (stale_build z r G m.to m.from (I.shape m.to) m.message h))
        (nw I.shape (stale_taken z g r pos (I.shape m.to) m.message h))
  ]
    where
      came : ℕ → Bool
      came j = eqb j k || σ.came j

      cs : (j : ℕ) → (eqb j k || σ.came j) ≡ true → (m : Sent) × (nth σ.said j ≡ Some m)
      cs j h = elim (or_cases (eqb j k) (σ.came j) h) [ inl q ↦ (m, ap (λ x. nth σ.said x) (eqb-true j k q) ∙ e) | inr q ↦ I.came_said j q ]

      nw : (sh : ℕ → Shape) → Taken r (sh m.to) m.message → Newly r σ (λ j. eqb j k || σ.came j) sh
      nw sh t j n a h = elim (or_cases (eqb j k) (σ.came j) h) [
        | inr q ↦ inl q
        | inl q ↦ inr (subst (λ (x : Sent). Taken r (sh x.to) x.message) (same_message m n (sym e ∙ (ap (λ x. nth σ.said x) (sym (eqb-true j k q)) ∙ a))) t)
      ]

      go : (M : Message) → m.message ≡ M → Honest z r I.shape m.from m.to M → Later z r G σ I (go_on σ m.to (λ j. eqb j k || σ.came j) (hear (σ.routers m.to) m.from M))
      go (LinkDown l) q h =
          subst (λ x. Later z r G σ I (go_on σ m.to came (hear (σ.routers m.to) m.from (LinkDown x)))) (sym h)
          (down_later σ I m.to (I.inside k m e) came cs m.from (λ sh kn. nw sh (subst (λ x. Taken r (sh m.to) x) (sym q) (λ _. kn))))
      go (message.Switched n) q h =
          subst (λ x. Later z r G σ I (go_on σ m.to came (hear (σ.routers m.to) m.from (message.Switched (record n { link = x }))))) (sym h.0)
          (subst (λ x. Later z r G σ I (go_on σ m.to came (hear (σ.routers m.to) x (message.Switched (record n { link = r }))))) (sym h.1)
          (over_later σ I m.to (I.inside k m e) came cs n.from n.destination h.2 h.3
          (λ sh t. nw sh (subst (λ x. Taken r (sh m.to) x) (sym q) (λ _. t)))))

  step_later : (e : Event) (σ : System) (I : Inv z r G σ) → Later z r G σ I (step e σ)
  step_later (Arrive k) σ I = arrive_later σ I k (nth σ.said k) refl
  step_later (Switch u d) σ I = switch_later σ I u d
  step_later (Put q u p) σ I = unchanged z r G σ I σ.came (set_flight q (put_on u p (σ.flights q)) σ.flights) I.came_said (λ k m e c. inl c)
  step_later (Hop q) σ I = unchanged z r G σ I σ.came (set_flight q (moved σ.routers (σ.flights q)) σ.flights) I.came_said (λ k m e c. inl c)

  notice_later : (σ : System) (I : Inv z r G σ) (u : ℕ) → u < z.n → Later z r G σ I (notices r u σ)
  notice_later σ I u b = down_later σ I u b σ.came I.came_said u (λ sh kn k m e c. inl c)

  noticed : (σ : System) (I : Inv z r G σ) (u : ℕ) (b : u < z.n) → knows ((notice_later σ I u b).inv.shape u) ≡ true
  noticed σ I u b = go (I.shape u) refl
    where
      aware : (S : Shape) → is_some (build z r G u S).transition ≡ true → knows S ≡ true
      aware (Unaware es) e = absurd (both_ways false refl e)
      aware (Switching sw pe) e = refl
      aware Settled e = refl

      go : (S : Shape) → I.shape u ≡ S → knows ((notice_later σ I u b).inv.shape u) ≡ true
      go (Switching sw pe) was = (notice_later σ I u b).know u (subst (λ X. knows X ≡ true) (sym was) refl)
      go Settled was = (notice_later σ I u b).know u (subst (λ X. knows X ≡ true) (sym was) refl)
      go (Unaware es) was =
          let now = λ (R : Reply). is_some ((go_on σ u σ.came R).routers u).transition in
          aware ((notice_later σ I u b).inv.shape u)
          (ap (λ (x : Router). is_some x.transition) (sym ((notice_later σ I u b).inv.is u b)) ∙
          (ap (λ (x : Router). now (hear x u (LinkDown r))) (I.is u b ∙ ap (λ X. build z r G u X) was) ∙
          (ap now (down_unaware z r G pos u u es) ∙
          ap (λ (x : Router). is_some x.transition) (cond-true (eqb u u) (build z r G u (learned z r u es)) (σ.routers u) (eq-eqb u u refl)))))

-- a calm system
start : (z : Network) → Lawful z → (r : LinkId) → 0 < z.cost r.a r.b → (ω : System) (C : Calm z ω) → Inv z r C.gone ω
start z g r pos ω C =
    record {
      shape = λ u. Unaware [];
      is = C.nothing;
      others = C.others;
      sound = λ k m e. inr (C.old k m e).1;
      inside = λ k m e. (C.old k m e).0;
      nodes = λ u h. absurd (both_ways false refl h);
      early = λ u d v h. absurd (both_ways (came_early r d v []) (early_none r d v) h);
      waits = λ v. tt;
      order = λ d u v h. absurd (both_ways false refl h);
      unfinished = λ v. tt;
      came_said = C.came;
      taken = λ k m e h. stale_taken z g r pos (Unaware []) m.message (C.old k m e).1;
      told = λ u h. absurd (both_ways false refl h);
      spoke = λ u d v h. absurd (both_ways false refl h);
    }

-- what holds in every state after the failure: the invariant, and the ends know
pub record Held (z : Network) (r : LinkId) (G : ℕ → List LinkId) (σ : System) : Type 0 where
  pub inv : Inv z r G σ
  pub ends : (u v : ℕ) → joins r u v ≡ true → knows (inv.shape u) ≡ true

abbrev pub held_later : (z : Network) (r : LinkId) (G : ℕ → List LinkId) (σ τ : System) (H : Held z r G σ) → Later z r G σ H.inv τ → Held z r G τ
held_later z r G σ τ H l = record { inv = l.inv; ends = λ u v j. l.know u (H.ends u v j) }

module _ (z : Network) (r : LinkId) (ω : System) (F : Failed z r ω) where
  pub held_start : Held z r F.calm.gone (fails r ω)
  held_start = record { inv = l2.inv; ends = known }
    where
      G : ℕ → List LinkId
      G = F.calm.gone

      I : Inv z r G ω
      I = start z F.lawful r F.there ω F.calm

      ins : (r.a < z.n) × (r.b < z.n)
      ins = F.lawful.within r.a r.b F.there

      l1 : Later z r G ω I (notices r r.a ω)
      l1 = notice_later z F.lawful r F.there G ω I r.a ins.0

      l2 : Later z r G (notices r r.a ω) l1.inv (fails r ω)
      l2 = notice_later z F.lawful r F.there G (notices r r.a ω) l1.inv r.b ins.1

      known : (u v : ℕ) → joins r u v ≡ true → knows (l2.inv.shape u) ≡ true
      known u v j = elim (joins_ends r u v j) [
        | inl q ↦ subst (λ x. knows (l2.inv.shape x) ≡ true) (sym q.0) (l2.know r.a (noticed z F.lawful r F.there G ω I r.a ins.0))
        | inr q ↦ subst (λ x. knows (l2.inv.shape x) ≡ true) (sym q.0) (noticed z F.lawful r F.there G (notices r r.a ω) l1.inv r.b ins.1)
      ]

  pub stepped : (e : Event) (σ : System) (H : Held z r F.calm.gone σ) → Later z r F.calm.gone σ H.inv (step e σ)
  stepped e σ H = step_later z F.lawful r F.there F.calm.gone e σ H.inv

  held_run : (es : List Event) (σ : System) → Held z r F.calm.gone σ → Held z r F.calm.gone (run es σ)
  unfolding run
  held_run [] σ H = H
  held_run (e ∷ es) σ H = held_run es (step e σ) (held_later z r F.calm.gone σ (step e σ) H (stepped e σ H))

  pub held : (es : List Event) → Held z r F.calm.gone (after r ω es)
  held es = held_run es (fails r ω) held_start

  -- which router has switched
  pub done_is : (σ : System) (H : Held z r F.calm.gone σ) (d u : ℕ) → u < z.n → done_in r σ d u ≡ over (H.inv.shape u) d
  done_is σ H d u b = ap (λ (s : Router). has_switched r s d) (H.inv.is u b) ∙ switched_is z r F.calm.gone F.there u (H.inv.shape u) d
