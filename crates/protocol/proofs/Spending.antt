-- What a packet spends on its way to its aim, and how often a repair is put on it.
use Rattle.std.proofs.Common.{◌≡◌, ℕ, suc, ◌+◌, ◌-◌, ◌<◌, ◌≤◌, Bool, true, false, ◌⊎◌, List, [], ◌∷◌, length, Some, None, Option, sym, refl, ap, ◌∙◌, subst, inl, inr, arith}
use Rattle.std.proofs.lemmas.Bool.{both_ways, cases_Bool}
use Rattle.protocol.specs.Delivery.{Reachable, enough_hops, aim_at, blocked, repairs_on, repairs_at, repairs, Deliverable}
use Rattle.protocol.specs.Failed.{after, Done, done_in, Failed}
use Rattle.protocol.specs.System.{decided, moved, step, run, count_if, moves, System, Flight, NoPacket, UnderWay, Delivered, Dropped, Event}
use Rattle.protocol.specs.Router.{Router}
use Rattle.protocol.specs.Costs.{Aims, AtAim, NotYet, OnceForAim, RepairCost, CostBefore, UntouchedCost, CostAfter, Spends}
use Rattle.protocol.specs.Packet.{forward}
use Rattle.protocol.proofs.Forwarding.{blocked_by}
use Rattle.protocol.proofs.Delivered.{routed}
use Rattle.protocol.proofs.Invariant.{done_of, Later}
use Rattle.protocol.proofs.Flights.{does, count_swap, Fly, fly_some, fly_step, take_off, Does, it_stays, it_moves}
use Rattle.protocol.proofs.Touched.{uses_hop}
use Rattle.protocol.proofs.Shape.{build, over, over_knows, me_is, cost_is}
use Rattle.protocol.proofs.AimHop.{pack, rem_more, rem_here, Rem, touched, steadily, newly, AimNext, is_delivered, is_sent, AimHopped, goes_on, leaves, rem_next}
use Rattle.protocol.proofs.Steps.{held_later, Held, stepped, held, done_is}
use Rattle.protocol.proofs.Enough.{Grows, ready_some}
use Rattle.theory.specs.NextHop.{uses}
use Rattle.theory.specs.Distance.{distance}
use Rattle.theory.specs.Network.{without, Network, LinkId}
use Rattle.theory.proofs.Repairs.{uses_over}
use Rattle.theory.proofs.NextHops.{some_of, next_hop_is}
use Rattle.theory.proofs.Without.{untouched}
use Rattle.theory.proofs.Using.{same_some, second_link}
use Rattle.theory.proofs.Paths.{some_inj, none_some}
use Rattle.types.specs.Packet.{Packet}
use Rattle.types.specs.Segments.{strip}
use Rattle.types.specs.declared.segment.Segment.{Segment}
use Rattle.types.specs.declared.segment.Segment.TheVariants.{Node, Link}

-- where the total is known: what it has spent, with what it has to spend
abbrev Sum : Option ℕ → ℕ → Option ℕ → Type 0
Sum total k R = (t : ℕ) → total ≡ Some t → (a : ℕ) × (R ≡ Some a) × (k + a ≡ t)

-- after j repairs, of at most C
abbrev Track : Network → LinkId → Done → Type 0 → ℕ → ℕ → List Segment → Option ℕ → ℕ → ℕ → Flight → Type 0
Track z r f P d x tl total C j NoPacket = ⊥
Track z r f P d x tl total C j (UnderWay u k p) = (h : ℕ) × (ts : List Segment) × (R : Option ℕ) × (n : ℕ) × (p ≡ pack d h ts) × Sum total k R × (n + j ≤ C) × Rem z r f P x tl n u ts R
Track z r f P d x tl total C j (Delivered u k) = ((t : ℕ) → total ≡ Some t → k ≡ t) × (j ≤ C)
Track z r f P d x tl total C j (Dropped u k n) = ⊥

track_few : (z : Network) (r : LinkId) (f : Done) (P : Type 0) (d x : ℕ) (tl : List Segment) (total : Option ℕ) (C j : ℕ) (fl : Flight) → Track z r f P d x tl total C j fl → j ≤ C
track_few z r f P d x tl total C j NoPacket w = absurd w
track_few z r f P d x tl total C j (UnderWay u k p) w = omega (arith, w.6)
track_few z r f P d x tl total C j (Delivered u k) w = w.1
track_few z r f P d x tl total C j (Dropped u k n) w = absurd w

track_more : (z : Network) (r : LinkId) (f g : Done) (P : Type 0) (d x : ℕ) (tl : List Segment) (total : Option ℕ) (C j : ℕ) → Grows f g → (fl : Flight) → Track z r f P d x tl total C j fl → Track z r g P d x tl total C j fl
track_more z r f g P d x tl total C j more NoPacket w = w
track_more z r f g P d x tl total C j more (UnderWay u k p) w = (w.0, w.1, w.2, w.3, w.4, w.5, w.6, rem_more more w.7)
track_more z r f g P d x tl total C j more (Delivered u k) w = w
track_more z r f g P d x tl total C j more (Dropped u k n) w = w

module _ (z : Network) (r : LinkId) (ω : System) (F : Failed z r ω) (P : Type 0) (d x : ℕ) (tl : List Segment) (aims : Aims d tl x) (few : length tl ≤ 3) (total : Option ℕ) (C : ℕ) where
  track_hop : (σ : System) (H : Held z r F.calm.gone σ) → (P → (v : ℕ) → over (H.inv.shape v) x ≡ false) → (B D h i j : ℕ) (fl : Flight) → (tl ≡ []) ⊎ (AtAim x tl fl → ⊥) →
      Fly z r (done_of H.inv.shape) (length tl) d B D h i fl → Track z r (done_of H.inv.shape) P d x tl total C j fl → Track z r (done_of H.inv.shape) P d x tl total C (count_if (repairs_on σ.routers fl) j) (moved σ.routers fl)
  track_hop σ H N B D h i j NoPacket E y w = w
  track_hop σ H N B D h i j (Delivered u k) E y w = w
  track_hop σ H N B D h i j (Dropped u k n) E y w = w
  track_hop σ H N B D h i j (UnderWay u k p) E y w =
      let track = λ (y : Router) (v : ℕ) (p : Packet).
      Track z r f P d x tl total C (count_if (blocked y (aim_at v p.destination (strip v p.segments))) j) (decided y u k (forward y p)) in
      subst (λ (y : Router). track y y.me p) (sym (H.inv.is u y.4))
      (subst (λ v. track s v p) (sym (me_is z r F.calm.gone u (H.inv.shape u)))
      (subst (λ p. track s u p) (sym w.4)
      (go (rem_next z F.lawful r F.calm.gone f H.inv.order P d x tl aims few N u w.0 some (H.inv.shape u) (λ e. refl) (λ v e. H.ends u v e) w.3 w.2 w.1 w.7))))
    where
      f : Done
      f = done_of H.inv.shape

      s : Router
      s = build z r F.calm.gone u (H.inv.shape u)

      blocks : Bool
      blocks = blocked_by s u d (strip u w.1)

      some : 0 < w.0
      some = omega (arith, ready_some y.7, y.6, ap (λ (p : Packet). p.hop_limit) w.4)

      land : (n : ℕ) → n + count_if blocks j ≤ C → AimNext z r f P d x tl n u w.0 w.2 (forward s (pack d w.0 w.1)) → Track z r f P d x tl total C (count_if blocks j) (decided s u k (forward s (pack d w.0 w.1)))
      land n le (is_delivered o e) =
          subst (λ D. Track z r f P d x tl total C (count_if blocks j) (decided s u k D)) (sym e) (λ t i. let v = w.5 t i in omega (arith, o v.0 v.1, v.2), omega arith)
      land n le (is_sent v us R' jo e o m) =
          subst (λ D. Track z r f P d x tl total C (count_if blocks j) (decided s u k D)) (sym e)
          (w.0 - 1, us, R', n, refl, λ t i. let a = w.5 t i in let b = o a.0 a.1 in (b.0, b.1, omega (arith, a.2, b.2, cost_is z r F.calm.gone u v u (H.inv.shape u) jo)), le, m)

      used : (b : Bool) (n' : ℕ) → count_if b n' ≤ w.3 → n' + count_if b j ≤ C
      used true n' le = omega (arith, w.6)
      used false n' le = omega (arith, w.6)

      go : AimHopped z r f P d x tl w.3 u w.0 w.1 w.2 blocks (forward s (pack d w.0 w.1)) → Track z r f P d x tl total C (count_if blocks j) (decided s u k (forward s (pack d w.0 w.1)))
      go (goes_on n' le m) = land n' (used blocks n' le) m
      go (leaves n a b) = absurd (elim E [ inl e ↦ n e | inr e ↦ e (k, p, ap (λ v. UnderWay v k p) a, ap (λ (p : Packet). p.segments) w.4 ∙ b) ])

  -- who has switched stays so
  run_over : (fs : List Event) (σ : System) (H : Held z r F.calm.gone σ) (u : ℕ) → u < z.n → over (H.inv.shape u) x ≡ true → done_in r (run fs σ) x u ≡ true
  unfolding run
  run_over [] σ H u b h = done_is z r ω F σ H x u b ∙ h
  run_over (e ∷ fs) σ H u b h = let l = stepped z r ω F e σ H in run_over fs (step e σ) (held_later z r F.calm.gone σ (step e σ) H l) u b (l.more x u h)

  track_step : (e : Event) (σ : System) (H : Held z r F.calm.gone σ) (q : ℕ) → (P → (v : ℕ) → over (H.inv.shape v) x ≡ false) → (B D h i j : ℕ) → (tl ≡ []) ⊎ (AtAim x tl (σ.flights q) → ⊥) →
      Fly z r (done_of H.inv.shape) (length tl) d B D h i (σ.flights q) → Track z r (done_of H.inv.shape) P d x tl total C j (σ.flights q) →
      Track z r (done_of (stepped z r ω F e σ H).inv.shape) P d x tl total C (count_if (repairs_at q e σ) j) ((step e σ).flights q)
  track_step e σ H q N B D h i j E y w = go (does q e σ (fly_some z r f (length tl) d B D h i (σ.flights q) y))
    where
      l : Later z r F.calm.gone σ H.inv (step e σ)
      l = stepped z r ω F e σ H

      f : Done
      f = done_of H.inv.shape

      g : Done
      g = done_of l.inv.shape

      go : Does q e σ → Track z r g P d x tl total C (count_if (repairs_at q e σ) j) ((step e σ).flights q)
      go (it_stays a b c) =
          subst (λ (fl : Flight). Track z r g P d x tl total C (count_if (repairs_at q e σ) j) fl) (sym a)
          (subst (λ b. Track z r g P d x tl total C (count_if b j) (σ.flights q)) (sym c) (track_more z r f g P d x tl total C j l.more (σ.flights q) w))
      go (it_moves a b c) =
          subst (λ (fl : Flight). Track z r g P d x tl total C (count_if (repairs_at q e σ) j) fl) (sym a)
          (subst (λ b. Track z r g P d x tl total C (count_if b j) (moved σ.routers (σ.flights q))) (sym c)
          (track_more z r f g P d x tl total C (count_if (repairs_on σ.routers (σ.flights q)) j) l.more (moved σ.routers (σ.flights q)) (track_hop σ H N B D h i j (σ.flights q) E y w)))

  -- at the end of a run
  run_track : (fs : List Event) (σ : System) (H : Held z r F.calm.gone σ) (q : ℕ) → (P → (v : ℕ) → done_in r (run fs σ) x v ≡ false) → (B D h i j : ℕ) → (tl ≡ []) ⊎ NotYet q x tl fs σ →
      Fly z r (done_of H.inv.shape) (length tl) d B D h i (σ.flights q) → Track z r (done_of H.inv.shape) P d x tl total C j (σ.flights q) →
      (f : Done) × Track z r f P d x tl total C (repairs q fs σ + j) ((run fs σ).flights q)
  unfolding run repairs
  run_track [] σ H q N B D h i j E y w =
      let a : j ≡ 0 + j = omega arith in
      (done_of H.inv.shape, subst (λ b. Track z r (done_of H.inv.shape) P d x tl total C b (σ.flights q)) a w)
  run_track (e ∷ fs) σ H q N B D h i j E y w =
      let l = stepped z r ω F e σ H in
      let now : P → (v : ℕ) → over (H.inv.shape v) x ≡ false = λ p v. elim (cases_Bool (over (H.inv.shape v) x)) [
        | inr n ↦ n
        | inl n ↦ absurd (both_ways (done_in r (run (e ∷ fs) σ) x v) (N p v) (run_over (e ∷ fs) σ H v (H.inv.nodes v (over_knows (H.inv.shape v) x n)) n))
      ] in
      let here : (tl ≡ []) ⊎ (AtAim x tl (σ.flights q) → ⊥) = elim E [ inl i ↦ inl i | inr i ↦ inr i.0 ] in
      let next : (tl ≡ []) ⊎ NotYet q x tl fs (step e σ) = elim E [ inl i ↦ inl i | inr i ↦ inr i.1 ] in
      let t =
      run_track fs (step e σ) (held_later z r F.calm.gone σ (step e σ) H l) q N B D (moves q (e ∷ []) + h) (count_if (repairs_at q e σ) i) (count_if (repairs_at q e σ) j) next
      (fly_step z F.lawful r F.calm.gone σ H.inv.shape l.inv.shape e (routed z r F.calm.gone σ H) l.more q (length tl) d B D h i few y) (track_step e σ H q now B D h i j here y w) in
      (t.0, subst (λ b. Track z r t.0 P d x tl total C b ((run fs (step e σ)).flights q)) (count_swap (repairs_at q e σ) (repairs q fs (step e σ)) j) t.1)

-- from a packet that can be delivered
tracked : (z : Network) (r : LinkId) (ω : System) (F : Failed z r ω) (es : List Event) (P : Type 0) (q d x u k n : ℕ) (total R : Option ℕ) (ss : List Segment) → Deliverable (without r z) (after r ω es) q d u k ss → Aims d ss x → (fs : List Event) →
    (P → (v : ℕ) → done_in r (run fs (after r ω es)) x v ≡ false) → Sum total k R → Rem z r (done_of (held z r ω F es).inv.shape) P x ss n u ss R → (ss ≡ []) ⊎ NotYet q x ss fs (after r ω es) →
    (f : Done) × Track z r f P d x ss total n (repairs q fs (after r ω es) + 0) ((run fs (after r ω es)).flights q)
tracked z r ω F es P q d x u k n total R ss D aims fs N sum m E =
    let H = held z r ω F es in
    run_track z r ω F P d x ss aims D.few total n fs (after r ω es) H q N (enough_hops z.n (length ss)) (suc (length ss)) 0 0 0 E
    (take_off z r (done_of H.inv.shape) (after r ω es) q d u k ss D)
    (subst (λ (fl : Flight). Track z r (done_of H.inv.shape) P d x ss total n 0 fl) (sym D.at) (D.hop_limit, ss, R, n, refl, sum, omega arith, m))

-- a packet that has a to spend spends a
spends : (z : Network) (r : LinkId) (ω : System) (F : Failed z r ω) (es : List Event) (P : Type 0) (q d x u k a : ℕ) (ss : List Segment) → Deliverable (without r z) (after r ω es) q d u k ss → Aims d ss x → (fs : List Event) →
    (P → (v : ℕ) → done_in r (run fs (after r ω es)) x v ≡ false) → Rem z r (done_of (held z r ω F es).inv.shape) P x ss 1 u ss (Some a) → Spends (after r ω es) q x k a ss fs
spends z r ω F es P q d x u k a ss D aims fs N m =
    record {
      reached = λ ny k' p e i.
          let w = track (inr ny) in
          let v = subst (λ (fl : Flight). Track z r w.0 P d x ss (Some (k + a)) 1 (repairs q fs (after r ω es) + 0) fl) e w.1 in
          let b = v.5 (k + a) refl in
          omega (arith, b.2, rem_here F.lawful (ap (λ (p : Packet). p.segments) (sym v.4) ∙ i) b.0 b.1 v.7);
      delivered = λ i v k' e. let w = track (inl i) in (subst (λ (fl : Flight). Track z r w.0 P d x ss (Some (k + a)) 1 (repairs q fs (after r ω es) + 0) fl) e w.1).0 (k + a) refl;
    }
  where
    track : (ss ≡ []) ⊎ NotYet q x ss fs (after r ω es) → (f : Done) × Track z r f P d x ss (Some (k + a)) 1 (repairs q fs (after r ω es) + 0) ((run fs (after r ω es)).flights q)
    track E = tracked z r ω F es P q d x u k 1 (Some (k + a)) (Some a) ss D aims fs N (λ t i. (a, refl, some_inj (k + a) t i)) m E

-- an aim that can be reached, is
aim_left : (w : Network) (d x u : ℕ) (ss : List Segment) → Aims d ss x → Reachable w d u ss → (c : ℕ) × (distance w x u ≡ Some c)
aim_left w d x u [] a h = subst (λ y. (c : ℕ) × (distance w y u ≡ Some c)) a (some_of (distance w d u) h)
aim_left w d x u (Node y ∷ ss) a h = subst (λ y. (c : ℕ) × (distance w y u ≡ Some c)) a (some_of (distance w y u) h.0)
aim_left w d x u (Link y v ∷ ss) a h = absurd a

pub once_for_aim : OnceForAim
once_for_aim z r ω F es q d x u k ss D aims fs ny =
    let c = aim_left (without r z) d x u ss aims D.reachable in
    let f = done_of (held z r ω F es).inv.shape in
    let m : (R : Option ℕ) × Rem z r f ⊥ x ss 1 u ss R = elim (cases_Bool (uses z r x u)) [
      | inl t ↦ (None, touched c.0 refl (omega arith) t c.1 (λ a i. absurd (none_some a i)))
      | inr t ↦ (Some c.0, steadily c.0 refl refl t (sym (untouched z F.lawful r x u t).same_distance ∙ c.1))
    ] in
    let w = tracked z r ω F es ⊥ q d x u k 1 None m.0 ss D aims fs (λ y. absurd y) (λ t i. absurd (none_some t i)) m.1 (inr ny) in
    omega (arith, track_few z r w.0 ⊥ d x ss None 1 (repairs q fs (after r ω es) + 0) ((run fs (after r ω es)).flights q) w.1)

pub repair_cost : RepairCost
repair_cost z r ω F es q d x s e k c ss D aims p j left fs =
    let n = (next_hop_is z x s e p).near in
    let b = z.cost s e + n.rest in
    spends z r ω F es ⊥ q d x s k c ss D aims fs (λ y. absurd y)
    (touched c refl (omega arith) (uses_over z F.lawful r s e x j p) left
    (λ a i. let k : c ≡ a = some_inj c a i in record { s = s; e = e; q = b; c = c; t = b; sends = p; link = j; old = n.here; left = left; at = inl refl; here = n.here; sum = omega arith }))

pub cost_before : CostBefore
cost_before z r ω F es q d x u s e k b c ss D aims t p j to left fs nobody =
    let i = second_link z F.lawful r s e x u j p t in
    let a = same_some (distance z s u) i.0 b i.2 to in
    let l = aim_left (without r z) d x u ss aims D.reachable in
    spends z r ω F es (Unit {0}) q d x u k (b + c) ss D aims fs (λ _ v. nobody v)
    (touched l.0 refl (omega arith) t l.1
    (λ y o. let k : b + c ≡ y = some_inj (b + c) y o in record { s = s; e = e; q = i.1; c = c; t = i.0 + i.1; sends = p; link = j; old = i.3; left = left; at = inr tt; here = i.4; sum = omega arith }))

pub untouched_cost : UntouchedCost
untouched_cost z r ω F es q d x u k c ss D aims t to fs = spends z r ω F es ⊥ q d x u k c ss D aims fs (λ y. absurd y) (steadily c refl refl t to)

pub cost_after : CostAfter
cost_after z r ω F es q d x u k c ss D aims all left fs =
    let H = held z r ω F es in
    spends z r ω F es ⊥ q d x u k c ss D aims fs (λ y. absurd y)
    (newly c refl refl
    (λ v t.
    let p = uses_hop z r x v t in
    let b = (F.lawful.within v p.0 (next_hop_is z x v p.0 p.1).near.link).0 in
    sym (done_is z r ω F (after r ω es) H x v b) ∙ all v b t)
    left)
