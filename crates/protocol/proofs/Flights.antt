-- A packet that can be delivered stays so from event to event, and comes nearer with each of its hops.
use Rattle.std.proofs.Common.{◌≡◌, ℕ, zero, suc, ◌+◌, ◌<◌, ◌≤◌, Bool, true, false, ◌&&◌, ◌||◌, T, eqb, List, [], ◌∷◌, length, Some, None, Option, sym, refl, ap, ◌∙◌, subst, inl, inr, arith}
use Rattle.std.proofs.lemmas.Bool.{eqb-true, cases_Bool, and_left, cond-true, cond-false}
use Rattle.protocol.specs.Hearing.{hear}
use Rattle.protocol.specs.Delivery.{enough_hops, Safe, Arrived, aim_at, blocked, repairs_on, repairs_at, repairs, Deliverable}
use Rattle.protocol.specs.Failed.{Done}
use Rattle.protocol.specs.Order.{InOrder}
use Rattle.protocol.specs.System.{nth, go_on, arrive, decided, moved, put_on, step, run, count_if, moves, System, Flight, NoPacket, UnderWay, Delivered, Dropped, Event, Arrive, Switch, Put, Hop}
use Rattle.protocol.specs.Router.{Router, Reply, Refused, Stays, Goes}
use Rattle.protocol.specs.Packet.{forward}
use Rattle.protocol.specs.Switching.{switch}
use Rattle.protocol.proofs.Forwarding.{blocked_by}
use Rattle.protocol.proofs.OneHop.{Hopped, Next, arrives, sends_on, ready_next}
use Rattle.protocol.proofs.Invariant.{done_of}
use Rattle.protocol.proofs.Shape.{build, knows, me_is, Shape}
use Rattle.protocol.proofs.Enough.{Grows, plain_from, ready_more, ready_few, ready_some, Ready, plain}
use Rattle.theory.specs.Network.{joins, without, Network, Lawful, LinkId}
use Rattle.types.specs.Packet.{Packet}
use Rattle.types.specs.Segments.{strip}
use Rattle.types.specs.declared.message.Sent.{Sent}
use Rattle.types.specs.declared.segment.Segment.{Segment}

goes_flights : (σ : System) (u : ℕ) (came : ℕ → Bool) (R : Reply) → (go_on σ u came R).flights ≡ σ.flights
goes_flights σ u came (Refused k) = refl
goes_flights σ u came Stays = refl
goes_flights σ u came (Goes s new) = refl

arrive_flights : (σ : System) (k : ℕ) (M : Option Sent) → (arrive σ k M).flights ≡ σ.flights
arrive_flights σ k None = refl
arrive_flights σ k (Some m) = goes_flights σ m.to (λ j. eqb j k || σ.came j) (hear (σ.routers m.to) m.from m.message)

-- what an event does to packet q: it moves, or it stays where it is, since its number is taken
pub data Does (q : ℕ) (e : Event) (σ : System) : Type 0 where
  it_stays : (step e σ).flights q ≡ σ.flights q → moves q (e ∷ []) ≡ 0 → repairs_at q e σ ≡ false → Does q e σ
  it_moves : (step e σ).flights q ≡ moved σ.routers (σ.flights q) → moves q (e ∷ []) ≡ 1 → repairs_at q e σ ≡ repairs_on σ.routers (σ.flights q) → Does q e σ

put_taken : (u : ℕ) (x : Packet) (fl : Flight) → (fl ≡ NoPacket → ⊥) → put_on u x fl ≡ fl
put_taken u x NoPacket n = absurd (n refl)
put_taken u x (UnderWay v c p) n = refl
put_taken u x (Delivered v c) n = refl
put_taken u x (Dropped v c k) n = refl

pub does : (q : ℕ) (e : Event) (σ : System) → (σ.flights q ≡ NoPacket → ⊥) → Does q e σ
unfolding moves
does q (Arrive k) σ n = it_stays (ap (λ (f : ℕ → Flight). f q) (arrive_flights σ k (nth σ.said k))) refl refl
does q (Switch u d) σ n = it_stays (ap (λ (f : ℕ → Flight). f q) (goes_flights σ u σ.came (switch (σ.routers u) d))) refl refl
does q (Put p u x) σ n = elim (cases_Bool (eqb q p)) [
  | inr t ↦ it_stays (cond-false (eqb q p) (put_on u x (σ.flights p)) (σ.flights q) t) refl refl
  | inl t ↦
      it_stays (cond-true (eqb q p) (put_on u x (σ.flights p)) (σ.flights q) t ∙ (ap (λ y. put_on u x (σ.flights y)) (sym (eqb-true q p t)) ∙ put_taken u x (σ.flights q) n)) refl refl
]
does q (Hop p) σ n = elim (cases_Bool (eqb q p)) [
  | inr t ↦ it_stays (cond-false (eqb q p) (moved σ.routers (σ.flights p)) (σ.flights q) t) (ap (λ b. count_if b 0) t) (and_left (eqb q p) (repairs_on σ.routers (σ.flights q)) t)
  | inl t ↦
      it_moves (cond-true (eqb q p) (moved σ.routers (σ.flights p)) (σ.flights q) t ∙ ap (λ y. moved σ.routers (σ.flights y)) (sym (eqb-true q p t)))
      (ap (λ b. count_if b 0) t) (ap (λ b. b && repairs_on σ.routers (σ.flights q)) t)
]

moves_on : (q : ℕ) (e : Event) (fs : List Event) → moves q (e ∷ fs) ≡ moves q (e ∷ []) + moves q fs
unfolding moves
moves_on q (Arrive k) fs = omega arith
moves_on q (Switch u d) fs = omega arith
moves_on q (Put p u x) fs = omega arith
moves_on q (Hop p) fs = go (eqb q p)
  where
    go : (b : Bool) → count_if b (moves q fs) ≡ count_if b 0 + moves q fs
    go true = omega arith
    go false = omega arith

pub count_swap : (b : Bool) (x j : ℕ) → x + count_if b j ≡ count_if b x + j
count_swap true x j = omega arith
count_swap false x j = omega arith

moves_none : (q : ℕ) → moves q [] ≡ 0
unfolding moves
moves_none q = refl

-- after h of its hops and j repairs: B hops and C repairs are enough in all
abbrev pub Fly : Network → LinkId → Done → ℕ → ℕ → ℕ → ℕ → ℕ → ℕ → Flight → Type 0
Fly z r f m d B C h j NoPacket = ⊥
Fly z r f m d B C h j (UnderWay u c p) =
    (K : ℕ) × (R : ℕ) × (K + h ≤ B) × (R + j ≤ C) × (u < z.n) × (p.destination ≡ d) × (K ≤ p.hop_limit) × Ready z r f m p.destination K R u p.segments
Fly z r f m d B C h j (Delivered u c) = (u ≡ d) × (j ≤ C)
Fly z r f m d B C h j (Dropped u c k) = ⊥

fly_more : (z : Network) (r : LinkId) (f g : Done) → Grows f g → (m d B C h j : ℕ) (fl : Flight) → Fly z r f m d B C h j fl → Fly z r g m d B C h j fl
fly_more z r f g more m d B C h j NoPacket x = x
fly_more z r f g more m d B C h j (UnderWay u c p) x = (x.0, x.1, x.2, x.3, x.4, x.5, x.6, ready_more more x.4 x.7)
fly_more z r f g more m d B C h j (Delivered u c) x = x
fly_more z r f g more m d B C h j (Dropped u c k) x = x

pub fly_some : (z : Network) (r : LinkId) (f : Done) (m d B C h j : ℕ) (fl : Flight) → Fly z r f m d B C h j fl → fl ≡ NoPacket → ⊥
fly_some z r f m d B C h j fl x e = subst (λ y. Fly z r f m d B C h j y) e x

pub fly_few : (z : Network) (r : LinkId) (f : Done) (m d B C h j : ℕ) (fl : Flight) → Fly z r f m d B C h j fl → j ≤ C
fly_few z r f m d B C h j NoPacket x = absurd x
fly_few z r f m d B C h j (UnderWay u c p) x = omega (arith, x.3)
fly_few z r f m d B C h j (Delivered u c) x = x.1
fly_few z r f m d B C h j (Dropped u c k) x = absurd x

pub fly_safe : (z : Network) (r : LinkId) (f : Done) (m d B C h j : ℕ) (fl : Flight) → Fly z r f m d B C h j fl → Safe d (m + 2) fl
fly_safe z r f m d B C h j NoPacket x = x
fly_safe z r f m d B C h j (UnderWay u c p) x = ready_few x.7
fly_safe z r f m d B C h j (Delivered u c) x = x.0
fly_safe z r f m d B C h j (Dropped u c k) x = x

pub fly_ends : (z : Network) (r : LinkId) (f : Done) (m d B C h j : ℕ) (fl : Flight) → Fly z r f m d B C h j fl → B ≤ h → Arrived d fl
fly_ends z r f m d B C h j NoPacket x le = absurd x
fly_ends z r f m d B C h j (UnderWay u c p) x le = absurd (omega (arith, ready_some x.7, x.2))
fly_ends z r f m d B C h j (Delivered u c) x le = (c, ap (λ y. Delivered y c) x.0)
fly_ends z r f m d B C h j (Dropped u c k) x le = absurd x

-- routers of some shapes, that have switched in order, and of which the ends of the link know
pub record Routed (z : Network) (r : LinkId) (G : ℕ → List LinkId) (sh : ℕ → Shape) (f : ℕ → Router) : Type 0 where
  pub is : (u : ℕ) → u < z.n → f u ≡ build z r G u (sh u)
  pub order : InOrder z r (done_of sh)
  pub ends : (u v : ℕ) → u < z.n → joins r u v ≡ true → knows (sh u) ≡ true

-- one hop
fly_hop : (z : Network) → Lawful z → (r : LinkId) (G : ℕ → List LinkId) (sh : ℕ → Shape) (f : ℕ → Router) → Routed z r G sh f → (m d B C h j : ℕ) → m ≤ 3 → (fl : Flight) → Fly z r (done_of sh) m d B C h j fl →
    Fly z r (done_of sh) m d B C (suc h) (count_if (repairs_on f fl) j) (moved f fl)
fly_hop z g r G sh f W m d B C h j few NoPacket x = x
fly_hop z g r G sh f W m d B C h j few (Delivered u c) x = x
fly_hop z g r G sh f W m d B C h j few (Dropped u c k) x = x
fly_hop z g r G sh f W m d B C h j few (UnderWay u c p) x = at x.0 x.2 x.6 x.7
  where
    s : Router
    s = build z r G u (sh u)

    blocks : Bool
    blocks = blocked_by (build z r G u (sh u)) u p.destination (strip u p.segments)

    used : (b : Bool) (R' : ℕ) → count_if b R' ≤ x.1 → R' + count_if b j ≤ C
    used true R' le = omega (arith, x.3)
    used false R' le = omega (arith, x.3)

    counted : (b : Bool) (R' : ℕ) → count_if b R' ≤ x.1 → count_if b j ≤ C
    counted b R' le = omega (arith, used b R' le)

    go : (K : ℕ) → suc K + h ≤ B → suc K ≤ p.hop_limit → Hopped z r (done_of sh) m p K x.1 u blocks (forward s p) → Fly z r (done_of sh) m d B C (suc h) (count_if blocks j) (decided s u c (forward s p))
    go K a b w = land w.next
      where
        land : Next z r (done_of sh) m p K w.R' u (forward s p) → Fly z r (done_of sh) m d B C (suc h) (count_if blocks j) (decided s u c (forward s p))
        land (arrives e y) = subst (λ D. Fly z r (done_of sh) m d B C (suc h) (count_if blocks j) (decided s u c D)) (sym y) (e ∙ x.5, counted blocks w.R' w.paid)
        land (sends_on v ts bv y q) =
            subst (λ D. Fly z r (done_of sh) m d B C (suc h) (count_if blocks j) (decided s u c D)) (sym y) (K, w.R', omega arith, used blocks w.R' w.paid, bv, x.5, omega arith, q)

    at : (K : ℕ) → K + h ≤ B → K ≤ p.hop_limit → Ready z r (done_of sh) m p.destination K x.1 u p.segments →
        Fly z r (done_of sh) m d B C (suc h) (count_if (repairs_on f (UnderWay u c p)) j) (decided (f u) u c (forward (f u) p))
    at zero a b q = absurd (omega (arith, ready_some q))
    at (suc K) a b q =
        let fly = λ (y : Router) (v : ℕ).
        Fly z r (done_of sh) m d B C (suc h) (count_if (blocked y (aim_at v p.destination (strip v p.segments))) j) (decided y u c (forward y p)) in
        subst (λ (y : Router). fly y y.me) (sym (W.is u x.4))
        (subst (λ v. fly s v) (sym (me_is z r G u (sh u)))
        (go K a b (ready_next z g r G (done_of sh) m few p (omega arith) u (sh u) (λ e. refl) (λ v e. W.ends u v x.4 e) W.order 1 K x.1 p.segments q)))

-- one event
pub fly_step : (z : Network) → Lawful z → (r : LinkId) (G : ℕ → List LinkId) (σ : System) (sh th : ℕ → Shape) (e : Event) → Routed z r G sh σ.routers → Grows (done_of sh) (done_of th) →
    (q m d B C h j : ℕ) → m ≤ 3 → Fly z r (done_of sh) m d B C h j (σ.flights q) →
    Fly z r (done_of th) m d B C (moves q (e ∷ []) + h) (count_if (repairs_at q e σ) j) ((step e σ).flights q)
fly_step z g r G σ sh th e W more q m d B C h j few x = go (does q e σ (fly_some z r (done_of sh) m d B C h j (σ.flights q) x))
  where
    go : Does q e σ → Fly z r (done_of th) m d B C (moves q (e ∷ []) + h) (count_if (repairs_at q e σ) j) ((step e σ).flights q)
    go (it_stays a b c) =
        let k : h ≡ moves q (e ∷ []) + h = omega arith in
        subst (λ (y : Flight). Fly z r (done_of th) m d B C (moves q (e ∷ []) + h) (count_if (repairs_at q e σ) j) y) (sym a)
        (subst (λ y. Fly z r (done_of th) m d B C (moves q (e ∷ []) + h) (count_if y j) (σ.flights q)) (sym c)
        (subst (λ y. Fly z r (done_of th) m d B C y j (σ.flights q)) k (fly_more z r (done_of sh) (done_of th) more m d B C h j (σ.flights q) x)))
    go (it_moves a b c) =
        let k : suc h ≡ moves q (e ∷ []) + h = omega arith in
        subst (λ (y : Flight). Fly z r (done_of th) m d B C (moves q (e ∷ []) + h) (count_if (repairs_at q e σ) j) y) (sym a)
        (subst (λ y. Fly z r (done_of th) m d B C (moves q (e ∷ []) + h) (count_if y j) (moved σ.routers (σ.flights q))) (sym c)
        (subst (λ y. Fly z r (done_of th) m d B C y (count_if (repairs_on σ.routers (σ.flights q)) j) (moved σ.routers (σ.flights q))) k
        (fly_more z r (done_of sh) (done_of th) more m d B C (suc h) (count_if (repairs_on σ.routers (σ.flights q)) j) (moved σ.routers (σ.flights q)) (fly_hop z g r G sh σ.routers W m d B C h j few (σ.flights q) x))))

-- where it is at the end of a run
pub record Landed (z : Network) (r : LinkId) (m d B C h j : ℕ) (fl : Flight) : Type 0 where
  pub done : Done
  pub fly : Fly z r done m d B C h j fl

-- routers of which this holds after every event
pub record Steps (z : Network) (r : LinkId) (G : ℕ → List LinkId) (W : System → Type 0) : Type 0 where
  pub shape : (σ : System) → W σ → ℕ → Shape
  pub routed : (σ : System) (w : W σ) → Routed z r G (shape σ w) σ.routers
  pub next : (e : Event) (σ : System) → W σ → W (step e σ)
  pub more : (e : Event) (σ : System) (w : W σ) → Grows (done_of (shape σ w)) (done_of (shape (step e σ) (next e σ w)))

pub run_fly : (z : Network) → Lawful z → (r : LinkId) (G : ℕ → List LinkId) (W : System → Type 0) (T : Steps z r G W) (fs : List Event) (σ : System) (w : W σ) (q m d B C h j : ℕ) → m ≤ 3 → Fly z r (done_of (T.shape σ w)) m d B C h j (σ.flights q) →
    Landed z r m d B C (moves q fs + h) (repairs q fs σ + j) ((run fs σ).flights q)
unfolding run repairs
run_fly z g r G W T [] σ w q m d B C h j few x =
    let a : h ≡ moves q [] + h = omega (arith, moves_none q) in
    let b : j ≡ 0 + j = omega arith in
    record { done = done_of (T.shape σ w); fly = subst (λ y. Fly z r (done_of (T.shape σ w)) m d B C y (0 + j) (σ.flights q)) a (subst (λ y. Fly z r (done_of (T.shape σ w)) m d B C h y (σ.flights q)) b x) }
run_fly z g r G W T (e ∷ fs) σ w q m d B C h j few x =
    let v = T.next e σ w in
    let t =
    run_fly z g r G W T fs (step e σ) v q m d B C (moves q (e ∷ []) + h) (count_if (repairs_at q e σ) j) few
    (fly_step z g r G σ (T.shape σ w) (T.shape (step e σ) v) e (T.routed σ w) (T.more e σ w) q m d B C h j few x) in
    let a : moves q fs + (moves q (e ∷ []) + h) ≡ moves q (e ∷ fs) + h = omega (arith, moves_on q e fs) in
    let b : repairs q fs (step e σ) + count_if (repairs_at q e σ) j ≡ count_if (repairs_at q e σ) (repairs q fs (step e σ)) + j = count_swap (repairs_at q e σ) (repairs q fs (step e σ)) j in
    record {
      done = t.done;
      fly = subst (λ y. Fly z r t.done m d B C y (count_if (repairs_at q e σ) (repairs q fs (step e σ)) + j) ((run fs (step e σ)).flights q)) a
          (subst (λ y. Fly z r t.done m d B C (moves q fs + (moves q (e ∷ []) + h)) y ((run fs (step e σ)).flights q)) b t.fly);
    }

-- a packet that can be delivered
pub take_off : (z : Network) (r : LinkId) (f : Done) (σ : System) (q d u c : ℕ) (ss : List Segment) → Deliverable (without r z) σ q d u c ss → Fly z r f (length ss) d (enough_hops z.n (length ss)) (suc (length ss)) 0 0 (σ.flights q)
take_off z r f σ q d u c ss D =
    let B = enough_hops z.n (length ss) in
    subst (λ (y : Flight). Fly z r f (length ss) d B (suc (length ss)) 0 0 y) (sym D.at)
    (B, suc (length ss), omega arith, omega arith, D.inside, refl, D.enough, plain (omega arith) (plain_from z r f d B (suc (length ss)) u ss D.reachable (omega arith) (omega arith)))
