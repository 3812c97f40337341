-- Every packet arrives: after a failure, and where no failure is known.
use Rattle.std.proofs.Common.{◌≡◌, ℕ, suc, ◌+◌, ◌*◌, ◌<◌, ◌≤◌, Bool, true, false, ◌||◌, eqb, List, [], ◌∷◌, length, is_some, Some, None, Option, sym, refl, ap, ◌∙◌, subst, inl, inr, mul-le-mul_right, arith}
use Rattle.std.proofs.lemmas.Bool.{both_ways, cases_lt, cases_Bool}
use Rattle.protocol.specs.Hearing.{hear}
use Rattle.protocol.specs.Delivery.{Reachable, enough_hops, Safe, Delivery, WithinLimit, repairs, RepairedOnce, CalmDelivery, Deliverable}
use Rattle.protocol.specs.Failed.{Stale, after, Done, Failed}
use Rattle.protocol.specs.System.{nth, go_on, arrive, step, run, moves, System, Flight, NoPacket, UnderWay, Delivered, Dropped, Event, Arrive, Switch, Put, Hop}
use Rattle.protocol.specs.Router.{idle, Router, Reply}
use Rattle.protocol.specs.Switching.{switch_in, switch}
use Rattle.protocol.proofs.Invariant.{done_of}
use Rattle.protocol.proofs.Flights.{Fly, fly_few, fly_safe, fly_ends, run_fly, take_off, Routed, Landed, Steps}
use Rattle.protocol.proofs.Touched.{by_use}
use Rattle.protocol.proofs.Shape.{Unaware}
use Rattle.protocol.proofs.Links.{Ignored, ignored_stays, stale_heard}
use Rattle.protocol.proofs.Steps.{held_later, Held, stepped, held}
use Rattle.protocol.proofs.Enough.{Ready, plain, on_repair}
use Rattle.theory.specs.NextHop.{uses}
use Rattle.theory.specs.Network.{joins, without, Network, Lawful, LinkId}
use Rattle.theory.proofs.NextHops.{next_hop_is}
use Rattle.theory.proofs.Joins.{joins_ends}
use Rattle.theory.proofs.Without.{cost_left, untouched}
use Rattle.types.specs.declared.message.Sent.{Sent}
use Rattle.types.specs.declared.segment.Segment.{Segment}
use Rattle.types.specs.declared.segment.Segment.TheVariants.{Node, Link}

pub routed : (z : Network) (r : LinkId) (G : ℕ → List LinkId) (σ : System) (H : Held z r G σ) → Routed z r G H.inv.shape σ.routers
routed z r G σ H = record { is = H.inv.is; order = H.inv.order; ends = λ u v b j. H.ends u v j }

held_steps : (z : Network) (r : LinkId) (ω : System) (F : Failed z r ω) → Steps z r F.calm.gone (λ σ. Held z r F.calm.gone σ)
held_steps z r ω F =
    record {
      shape = λ σ H. H.inv.shape;
      routed = λ σ H. routed z r F.calm.gone σ H;
      next = λ e σ H. held_later z r F.calm.gone σ (step e σ) H (stepped z r ω F e σ H);
      more = λ e σ H. (stepped z r ω F e σ H).more;
    }

landed : (z : Network) (r : LinkId) (ω : System) → Failed z r ω → (es : List Event) (q d u c : ℕ) (ss : List Segment) → Deliverable (without r z) (after r ω es) q d u c ss → (fs : List Event) →
    Landed z r (length ss) d (enough_hops z.n (length ss)) (suc (length ss)) (moves q fs + 0) (repairs q fs (after r ω es) + 0) ((run fs (after r ω es)).flights q)
unfolding held_steps
landed z r ω F es q d u c ss D fs =
    let H = held z r ω F es in
    run_fly z F.lawful r F.calm.gone (λ σ. Held z r F.calm.gone σ) (held_steps z r ω F) fs (after r ω es) H q (length ss) d (enough_hops z.n (length ss)) (suc (length ss)) 0 0 D.few
    (take_off z r (done_of H.inv.shape) (after r ω es) q d u c ss D)

pub delivery : Delivery
delivery z r ω F es q d u c ss D fs =
    let B = enough_hops z.n (length ss) in
    let t = landed z r ω F es q d u c ss D fs in
    let fl = (run fs (after r ω es)).flights q in (
      fly_safe z r t.done (length ss) d B (suc (length ss)) (moves q fs + 0) (repairs q fs (after r ω es) + 0) fl t.fly,
      λ le. fly_ends z r t.done (length ss) d B (suc (length ss)) (moves q fs + 0) (repairs q fs (after r ω es) + 0) fl t.fly (omega arith),
    )

pub repaired_once : RepairedOnce
repaired_once z r ω F es q d u c ss D fs =
    let t = landed z r ω F es q d u c ss D fs in
    omega (arith, fly_few z r t.done (length ss) d (enough_hops z.n (length ss)) (suc (length ss)) (moves q fs + 0) (repairs q fs (after r ω es) + 0) ((run fs (after r ω es)).flights q) t.fly)

pub within_limit : WithinLimit
within_limit n k h le =
    let a : n * n ≤ 64 * n = mul-le-mul_right n h in
    let b : suc k * (2 * n * n + 4 * n + 1) ≤ 4 * (2 * n * n + 4 * n + 1) = mul-le-mul_right (2 * n * n + 4 * n + 1) (omega arith) in
    omega arith

-- where no failure is known: as if a link had failed that is not there
abbrev absent : Network → LinkId
absent z = record { a = z.n; b = z.n }

absent_not : (z : Network) (u v : ℕ) → u < z.n → joins (absent z) u v ≡ true → ⊥
absent_not z u v b j = elim (joins_ends (absent z) u v j) [ inl q ↦ omega (arith, q.0) | inr q ↦ omega (arith, q.0) ]

absent_unused : (z : Network) → Lawful z → (d u : ℕ) → uses z (absent z) d u ≡ false
absent_unused z g d u = elim (cases_Bool (uses z (absent z) d u)) [
  | inr f ↦ f
  | inl t ↦ absurd (by_use z g (absent z) d (λ y. ⊥) (λ a v p j. absent_not z a v (g.within a v (next_hop_is z d a v p).near.link).0 j) (λ a v p t j i. i) u t)
]

absent_reached : (z : Network) → Lawful z → (d u : ℕ) (ss : List Segment) → Reachable z d u ss → Reachable (without (absent z) z) d u ss
absent_reached z g d u [] h = ap is_some (untouched z g (absent z) d u (absent_unused z g d u)).same_distance ∙ h
absent_reached z g d u (Node x ∷ ss) h = (ap is_some (untouched z g (absent z) x u (absent_unused z g x u)).same_distance ∙ h.0, absent_reached z g d x ss h.1)
absent_reached z g d u (Link a b ∷ ss) h =
    let j : joins (absent z) a b ≡ false = elim (cases_Bool (joins (absent z) a b)) [ inr f ↦ f | inl t ↦ absurd (absent_not z a b (g.within a b h.1).0 t) ] in
    (h.0, omega (arith, h.1, cost_left (absent z) z a b j), absent_reached z g d b ss h.2)

-- a calm system stays calm, and no router takes a link out
record StaysCalm (z : Network) (G : ℕ → List LinkId) (σ : System) : Type 0 where
  nothing : (u : ℕ) → u < z.n → σ.routers u ≡ idle z (G u) u
  others : (u : ℕ) → z.n ≤ u → (σ.routers u).transition ≡ None
  old : (k : ℕ) (m : Sent) → nth σ.said k ≡ Some m → (m.to < z.n) × Stale z m.message

calm_ignores : (z : Network) (G : ℕ → List LinkId) (σ : System) → StaysCalm z G σ → (u : ℕ) (came : ℕ → Bool) (R : Reply) → Ignored R → StaysCalm z G (go_on σ u came R)
calm_ignores z G σ C u came R i = subst (λ x. StaysCalm z G x) (sym (ignored_stays σ u came R i)) (record { nothing = C.nothing; others = C.others; old = C.old })

calm_arrive : (z : Network) (G : ℕ → List LinkId) (σ : System) → StaysCalm z G σ → (k : ℕ) (M : Option Sent) → nth σ.said k ≡ M → StaysCalm z G (arrive σ k M)
calm_arrive z G σ C k None e = C
calm_arrive z G σ C k (Some m) e =
    let o = C.old k m e in
    calm_ignores z G σ C m.to (λ j. eqb j k || σ.came j) (hear (σ.routers m.to) m.from m.message)
    (subst (λ (s : Router). Ignored (hear s m.from m.message)) (sym (C.nothing m.to o.0)) (stale_heard (idle z (G m.to) m.to) m.from m.message o.1))

calm_step : (z : Network) (G : ℕ → List LinkId) (e : Event) (σ : System) → StaysCalm z G σ → StaysCalm z G (step e σ)
calm_step z G (Arrive k) σ C = calm_arrive z G σ C k (nth σ.said k) refl
calm_step z G (Switch u d) σ C =
    let n : (σ.routers u).transition ≡ None =
    elim (cases_lt u z.n) [ inl b ↦ ap (λ (s : Router). s.transition) (C.nothing u b) | inr b ↦ C.others u b ] in
    calm_ignores z G σ C u σ.came (switch (σ.routers u) d) (subst (λ o. Ignored (switch_in (σ.routers u) d o)) (sym n) tt)
calm_step z G (Put q u p) σ C = record { nothing = C.nothing; others = C.others; old = C.old }
calm_step z G (Hop q) σ C = record { nothing = C.nothing; others = C.others; old = C.old }

calm_steps : (z : Network) (G : ℕ → List LinkId) → Steps z (absent z) G (λ σ. StaysCalm z G σ)
calm_steps z G =
    record {
      shape = λ σ C u. Unaware [];
      routed = λ σ C. record { is = C.nothing; order = λ d u v h. absurd (both_ways false refl h); ends = λ u v b j. absurd (absent_not z u v b j) };
      next = λ e σ C. calm_step z G e σ C;
      more = λ e σ C d u h. h;
    }

-- no repair is put
plain_few : (z : Network) → Lawful z → (f : Done) (m d B C h j : ℕ) (fl : Flight) → Fly z (absent z) f m d B C h j fl → Safe d m fl
plain_few z g f m d B C h j NoPacket x = x
plain_few z g f m d B C h j (UnderWay u c p) x = go x.7
  where
    go : Ready z (absent z) f m p.destination x.0 x.1 u p.segments → length p.segments ≤ m
    go (plain le y) = le
    go (on_repair y) = absurd (both_ways (uses z (absent z) y.aim y.from) (absent_unused z g y.aim y.from) y.touched)
plain_few z g f m d B C h j (Delivered u c) x = x.0
plain_few z g f m d B C h j (Dropped u c k) x = x

pub calm_delivery : CalmDelivery
unfolding calm_steps
calm_delivery z σ g C q d u c ss D fs =
    let G = C.gone in
    let B = enough_hops z.n (length ss) in
    let D' : Deliverable (without (absent z) z) σ q d u c ss =
    record { hop_limit = D.hop_limit; at = D.at; inside = D.inside; few = D.few; reachable = absent_reached z g d u ss D.reachable; enough = D.enough } in
    let t =
    run_fly z g (absent z) G (λ τ. StaysCalm z G τ) (calm_steps z G) fs σ (record { nothing = C.nothing; others = C.others; old = C.old }) q (length ss) d B (suc (length ss)) 0 0 D.few
    (take_off z (absent z) (λ e v. false) σ q d u c ss D') in
    let fl = (run fs σ).flights q in (
      plain_few z g t.done (length ss) d B (suc (length ss)) (moves q fs + 0) (repairs q fs σ + 0) fl t.fly,
      λ le. fly_ends z (absent z) t.done (length ss) d B (suc (length ss)) (moves q fs + 0) (repairs q fs σ + 0) fl t.fly (omega arith),
    )
