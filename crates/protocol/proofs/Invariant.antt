-- What holds in every state after the failure of a link: messages are honest, what came was heard, and the order is kept.
use Rattle.std.proofs.Common.{◌≡◌, ℕ, ◌<◌, ◌≤◌, Bool, true, false, cond, eqb, ◌⊎◌, List, ◌++◌, Some, None, sym, refl, ap, ◌∙◌, subst, inl, inr, arith}
use Rattle.std.proofs.lemmas.Bool.{eqb-true, eq-eqb, ne_eqb, cond-true, cond-false, cond_both}
use Rattle.protocol.specs.Hearing.{waits_for, came_early}
use Rattle.protocol.specs.Failed.{Stale, Done}
use Rattle.protocol.specs.Order.{InOrder}
use Rattle.protocol.specs.System.{nth, set_router, go_on, System, Flight}
use Rattle.protocol.specs.Router.{same_link, Router, Goes}
use Rattle.protocol.specs.Switching.{all_below}
use Rattle.protocol.proofs.Said.{nth_old, nth_either, down_to, over_to}
use Rattle.protocol.proofs.Shape.{build, over, knows, Shape, Unaware, Switching, Settled}
use Rattle.protocol.proofs.Enough.{Grows}
use Rattle.theory.specs.NextHop.{same, next_hop, uses}
use Rattle.theory.specs.Network.{joins, without, Network, LinkId}
use Rattle.types.specs.declared.message.Message.{Message}
use Rattle.types.specs.declared.message.Message.TheVariants.{LinkDown}
use Rattle.types.specs.declared.message.Message.TheVariants as message
use Rattle.types.specs.declared.message.Sent.{Sent}

abbrev pub done_of : (ℕ → Shape) → Done
done_of sh = λ d u. over (sh u) d

abbrev pub put_at : ℕ → Shape → (ℕ → Shape) → ℕ → Shape
put_at w S sh v = cond (eqb v w) S (sh v)

pub put_all : (P : ℕ → Shape → Type 0) (w : ℕ) (S : Shape) (sh : ℕ → Shape) → P w S → (v : ℕ) → P v (sh v) → P v (put_at w S sh v)
put_all P w S sh h v k = cond_both (eqb v w) S (sh v) (λ X. P v X) (λ e. subst (λ x. P x S) (sym (eqb-true v w e)) h) (λ e. k)

pub put_own : (w : ℕ) (S : Shape) (sh : ℕ → Shape) → put_at w S sh w ≡ S
put_own w S sh = cond-true (eqb w w) S (sh w) (eq-eqb w w refl)

-- a message is about the failed link; who says that it has switched has, and is waited for
abbrev pub Honest : Network → LinkId → (ℕ → Shape) → ℕ → ℕ → Message → Type 0
Honest z r sh from to (LinkDown l) = l ≡ r
Honest z r sh from to (message.Switched m) =
    (m.link ≡ r) × (from ≡ m.from) × (over (sh m.from) m.destination ≡ true) × (waits_for z r m.destination to m.from ≡ true)

-- whose message came early has switched
abbrev pub EarlyOk : LinkId → (ℕ → Shape) → Shape → Type 0
EarlyOk r sh (Unaware es) = (d u : ℕ) → came_early r d u es ≡ true → over (sh u) d ≡ true
EarlyOk r sh (Switching sw pe) = Unit {0}
EarlyOk r sh Settled = Unit {0}

-- who is to be waited for and has not switched is pending
abbrev pub WaitsOk : Network → LinkId → (ℕ → Shape) → ℕ → Shape → Type 0
WaitsOk z r sh v (Unaware es) = Unit {0}
WaitsOk z r sh v (Switching sw pe) = (d u : ℕ) → waits_for z r d v u ≡ true → (pe d u ≡ true) ⊎ (over (sh u) d ≡ true)
WaitsOk z r sh v Settled = Unit {0}

-- nobody else is, and not all destinations are switched for
abbrev pub OpenOk : Network → LinkId → ℕ → Shape → Type 0
OpenOk z r v (Unaware es) = Unit {0}
OpenOk z r v (Switching sw pe) = ((d u : ℕ) → pe d u ≡ true → waits_for z r d v u ≡ true) × (all_below z.n sw ≡ false)
OpenOk z r v Settled = Unit {0}

-- u's Switched message for d has been heard
abbrev pub Noted : LinkId → Shape → ℕ → ℕ → Type 0
Noted r (Unaware es) d u = came_early r d u es ≡ true
Noted r (Switching sw pe) d u = pe d u ≡ false
Noted r Settled d u = Unit {0}

abbrev pub Taken : LinkId → Shape → Message → Type 0
Taken r S (LinkDown l) = same_link r l ≡ true → knows S ≡ true
Taken r S (message.Switched m) = same_link r m.link ≡ true → Noted r S m.destination m.from

-- who knows has told its neighbours
abbrev pub ToldBy : Network → LinkId → List Sent → ℕ → Shape → Type 0
ToldBy z r said u S = knows S ≡ true → (v : ℕ) → 0 < (without r z).cost u v → (k : ℕ) × (nth said k ≡ Some (down_to r u v))

-- who has switched has said so to its old next hop
abbrev pub SpokeBy : Network → LinkId → List Sent → ℕ → Shape → Type 0
SpokeBy z r said u S = (d v : ℕ) → over S d ≡ true → uses z r d u ≡ true → next_hop z d u ≡ Some v → joins r u v ≡ false → (k : ℕ) × (nth said k ≡ Some (over_to r u v d))

pub record Inv (z : Network) (r : LinkId) (G : ℕ → List LinkId) (σ : System) : Type 0 where
  pub shape : ℕ → Shape
  pub is : (u : ℕ) → u < z.n → σ.routers u ≡ build z r G u (shape u)
  pub others : (u : ℕ) → z.n ≤ u → (σ.routers u).transition ≡ None
  pub sound : (k : ℕ) (m : Sent) → nth σ.said k ≡ Some m → Honest z r shape m.from m.to m.message ⊎ Stale z m.message
  pub inside : (k : ℕ) (m : Sent) → nth σ.said k ≡ Some m → m.to < z.n
  pub nodes : (u : ℕ) → knows (shape u) ≡ true → u < z.n
  pub early : (u : ℕ) → EarlyOk r shape (shape u)
  pub waits : (v : ℕ) → WaitsOk z r shape v (shape v)
  pub order : InOrder z r (done_of shape)
  pub unfinished : (v : ℕ) → OpenOk z r v (shape v)
  pub came_said : (k : ℕ) → σ.came k ≡ true → (m : Sent) × (nth σ.said k ≡ Some m)
  pub taken : (k : ℕ) (m : Sent) → nth σ.said k ≡ Some m → σ.came k ≡ true → Taken r (shape m.to) m.message
  pub told : (u : ℕ) → ToldBy z r σ.said u (shape u)
  pub spoke : (u : ℕ) → SpokeBy z r σ.said u (shape u)

-- one event later: who knew knows, and who had switched has
pub record Later (z : Network) (r : LinkId) (G : ℕ → List LinkId) (σ : System) (I : Inv z r G σ) (τ : System) : Type 0 where
  pub inv : Inv z r G τ
  pub more : Grows (done_of I.shape) (done_of inv.shape)
  pub know : (u : ℕ) → knows (I.shape u) ≡ true → knows (inv.shape u) ≡ true

-- of what has come by now, what had not come before has been heard by routers of these shapes
abbrev pub Newly : LinkId → System → (ℕ → Bool) → (ℕ → Shape) → Type 0
Newly r σ came sh = (k : ℕ) (m : Sent) → nth σ.said k ≡ Some m → came k ≡ true → (σ.came k ≡ true) ⊎ Taken r (sh m.to) m.message

honest_more : (z : Network) (r : LinkId) (sh th : ℕ → Shape) → Grows (done_of sh) (done_of th) → (from to : ℕ) (m : Message) → Honest z r sh from to m → Honest z r th from to m
honest_more z r sh th more from to (LinkDown l) h = h
honest_more z r sh th more from to (message.Switched m) h = (h.0, h.1, more m.destination m.from h.2, h.3)

early_more : (r : LinkId) (sh th : ℕ → Shape) → Grows (done_of sh) (done_of th) → (S : Shape) → EarlyOk r sh S → EarlyOk r th S
early_more r sh th more (Unaware es) h = λ d u e. more d u (h d u e)
early_more r sh th more (Switching sw pe) h = tt
early_more r sh th more Settled h = tt

pub waits_more : (z : Network) (r : LinkId) (sh th : ℕ → Shape) → Grows (done_of sh) (done_of th) → (v : ℕ) (S : Shape) → WaitsOk z r sh v S → WaitsOk z r th v S
waits_more z r sh th more v (Unaware es) h = tt
waits_more z r sh th more v (Switching sw pe) h = λ d u e. elim (h d u e) [ inl p ↦ inl p | inr p ↦ inr (more d u p) ]
waits_more z r sh th more v Settled h = tt

taken_more : (r : LinkId) (S S' : Shape) → (knows S ≡ true → knows S' ≡ true) → ((d u : ℕ) → Noted r S d u → Noted r S' d u) → (m : Message) → Taken r S m → Taken r S' m
taken_more r S S' kn nt (LinkDown l) h = λ x. kn (h x)
taken_more r S S' kn nt (message.Switched m) h = λ x. nt m.destination m.from (h x)

-- no router changes
pub unchanged : (z : Network) (r : LinkId) (G : ℕ → List LinkId) (σ : System) (I : Inv z r G σ) (came : ℕ → Bool) (fl : ℕ → Flight) → ((k : ℕ) → came k ≡ true → (m : Sent) × (nth σ.said k ≡ Some m)) → Newly r σ came I.shape →
    Later z r G σ I (record { routers = σ.routers; said = σ.said; came = came; flights = fl })
unchanged z r G σ I came fl cs nw =
    record {
      inv = record {
        shape = I.shape;
        is = I.is;
        others = I.others;
        sound = I.sound;
        inside = I.inside;
        nodes = I.nodes;
        early = I.early;
        waits = I.waits;
        order = I.order;
        unfinished = I.unfinished;
        came_said = cs;
        taken = λ k m e c. elim (nw k m e c) [ inl y ↦ I.taken k m e y | inr t ↦ t ];
        told = I.told;
        spoke = I.spoke;
      };
      more = λ d u h. h;
      know = λ u h. h;
    }

-- one router goes from the shape S0 to S, and sends new messages
pub record Change (z : Network) (r : LinkId) (G : ℕ → List LinkId) (σ : System) (I : Inv z r G σ) (w : ℕ) (S0 S : Shape) (new : List Sent) (came : ℕ → Bool) : Type 0 where
  pub was : I.shape w ≡ S0
  pub inside : w < z.n
  pub keeps_done : (d : ℕ) → over S0 d ≡ true → over S d ≡ true
  pub keeps_known : knows S0 ≡ true → knows S ≡ true
  pub keeps_noted : (d u : ℕ) → Noted r S0 d u → Noted r S d u
  pub honest : (k : ℕ) (m : Sent) → nth new k ≡ Some m → Honest z r (put_at w S I.shape) m.from m.to m.message
  pub within : (k : ℕ) (m : Sent) → nth new k ≡ Some m → m.to < z.n
  pub early : EarlyOk r (put_at w S I.shape) S
  pub waits : WaitsOk z r (put_at w S I.shape) w S
  pub order : InOrder z r (done_of (put_at w S I.shape))
  pub unfinished : OpenOk z r w S
  pub came_said : (k : ℕ) → came k ≡ true → (m : Sent) × (nth σ.said k ≡ Some m)
  pub newly : Newly r σ came (put_at w S I.shape)
  pub told : ToldBy z r (σ.said ++ new) w S
  pub spoke : SpokeBy z r (σ.said ++ new) w S

module _ (z : Network) (r : LinkId) (G : ℕ → List LinkId) (σ : System) (I : Inv z r G σ) (w : ℕ) (S0 S : Shape) (was : I.shape w ≡ S0) where
  pub grows : ((d : ℕ) → over S0 d ≡ true → over S d ≡ true) → Grows (done_of I.shape) (done_of (put_at w S I.shape))
  grows kd d u h =
      put_all (λ v X. over (I.shape v) d ≡ true → over X d ≡ true) w S I.shape (λ k. kd d (subst (λ X. over X d ≡ true) was k)) u (λ k. k) h

  -- where nobody switches the order is kept
  pub order_same : ((d : ℕ) → over S d ≡ over S0 d) → InOrder z r (done_of (put_at w S I.shape))
  order_same same d u v h p t j = grows (λ e k. same e ∙ k) d u (I.order d u v (old v h) p t j)
    where
      old : (v : ℕ) → over (put_at w S I.shape v) d ≡ true → over (I.shape v) d ≡ true
      old v = put_all (λ v X. over X d ≡ true → over (I.shape v) d ≡ true) w S I.shape (λ k. subst (λ X. over X d ≡ true) (sym was) (sym (same d) ∙ k)) v (λ k. k)

  -- what was told and said before stays so
  pub told_same : (knows S ≡ true → knows S0 ≡ true) → (new : List Sent) → ToldBy z r (σ.said ++ new) w S
  told_same back new h v c =
      let t = I.told w (subst (λ X. knows X ≡ true) (sym was) (back h)) v c in
      (t.0, nth_old σ.said new t.0 (down_to r w v) t.1)

  pub spoke_old : (new : List Sent) (d v : ℕ) → over S0 d ≡ true → uses z r d w ≡ true → next_hop z d w ≡ Some v → joins r w v ≡ false → (k : ℕ) × (nth (σ.said ++ new) k ≡ Some (over_to r w v d))
  spoke_old new d v h t p j =
      let k = I.spoke w d v (subst (λ X. over X d ≡ true) (sym was) h) t p j in
      (k.0, nth_old σ.said new k.0 (over_to r w v d) k.1)

pub change : (z : Network) (r : LinkId) (G : ℕ → List LinkId) (σ : System) (I : Inv z r G σ) (w : ℕ) (S0 S : Shape) (new : List Sent) (came : ℕ → Bool) →
    Change z r G σ I w S0 S new came → Later z r G σ I (go_on σ w came (Goes (build z r G w S) new))
change z r G σ I w S0 S new came C =
    record {
      inv = record {
        shape = sh;
        is = is';
        others = λ v b.
            ap (λ (x : Router). x.transition) (cond-false (eqb v w) (build z r G w S) (σ.routers v) (ne_eqb v w (λ e. omega (arith, C.inside)))) ∙
            I.others v b;
        sound = sound';
        inside = λ k m e. elim (nth_either σ.said new k m e) [ inl q ↦ I.inside k m q | inr q ↦ C.within q.0 m q.1 ];
        nodes = λ u. put_all (λ v X. knows X ≡ true → v < z.n) w S I.shape (λ _. C.inside) u (I.nodes u);
        early = λ u. put_all (λ v X. EarlyOk r sh X) w S I.shape C.early u (early_more r I.shape sh more (I.shape u) (I.early u));
        waits = λ v. put_all (λ v X. WaitsOk z r sh v X) w S I.shape C.waits v (waits_more z r I.shape sh more v (I.shape v) (I.waits v));
        order = C.order;
        unfinished = λ v. put_all (λ v X. OpenOk z r v X) w S I.shape C.unfinished v (I.unfinished v);
        came_said = λ k c. let q = C.came_said k c in (q.0, nth_old σ.said new k q.0 q.1);
        taken = taken';
        told = λ u.
            put_all (λ v X. ToldBy z r (σ.said ++ new) v X) w S I.shape C.told u (λ k v c. let q = I.told u k v c in (q.0, nth_old σ.said new q.0 (down_to r u v) q.1));
        spoke = λ u.
            put_all (λ v X. SpokeBy z r (σ.said ++ new) v X) w S I.shape C.spoke u (λ d v o t p j. let q = I.spoke u d v o t p j in (q.0, nth_old σ.said new q.0 (over_to r u v d) q.1));
      };
      more = more;
      know = λ u h. put_all (λ v X. knows (I.shape v) ≡ true → knows X ≡ true) w S I.shape (λ k. C.keeps_known (subst (λ X. knows X ≡ true) C.was k)) u (λ k. k) h;
    }
  where
    sh : ℕ → Shape
    sh = put_at w S I.shape

    more : Grows (done_of I.shape) (done_of (put_at w S I.shape))
    more = grows z r G σ I w S0 S C.was C.keeps_done

    is' : (v : ℕ) → v < z.n → set_router w (build z r G w S) σ.routers v ≡ build z r G v (put_at w S I.shape v)
    is' v b = go (eqb v w) refl
      where
        go : (b : Bool) → eqb v w ≡ b → cond b (build z r G w S) (σ.routers v) ≡ build z r G v (cond b S (I.shape v))
        go true e = ap (λ x. build z r G x S) (sym (eqb-true v w e))
        go false e = I.is v b

    sound' : (k : ℕ) (m : Sent) → nth (σ.said ++ new) k ≡ Some m → Honest z r (put_at w S I.shape) m.from m.to m.message ⊎ Stale z m.message
    sound' k m e = elim (nth_either σ.said new k m e) [
      | inl q ↦ elim (I.sound k m q) [ inl h ↦ inl (honest_more z r I.shape (put_at w S I.shape) more m.from m.to m.message h) | inr h ↦ inr h ]
      | inr q ↦ inl (C.honest q.0 m q.1)
    ]

    taken' : (k : ℕ) (m : Sent) → nth (σ.said ++ new) k ≡ Some m → came k ≡ true → Taken r (put_at w S I.shape m.to) m.message
    taken' k m e c =
        let q = C.came_said k c in
        let old : nth σ.said k ≡ Some m = q.1 ∙ (sym (nth_old σ.said new k q.0 q.1) ∙ e) in
        elim (C.newly k m old c) [
          | inl y ↦
              put_all (λ v X. Taken r (I.shape v) m.message → Taken r X m.message) w S I.shape
              (λ t. taken_more r S0 S C.keeps_known C.keeps_noted m.message (subst (λ X. Taken r X m.message) C.was t)) m.to (λ t. t) (I.taken k m old y)
          | inr t ↦ t
        ]
