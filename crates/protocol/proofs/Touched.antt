-- Paths that use the failed link, and paths that do not.
use Rattle.std.proofs.Common.{◌≡◌, ℕ, zero, suc, ◌+◌, ◌<◌, ◌≤◌, Bool, true, false, not, ◌&&◌, ◌⊎◌, Some, None, Option, sym, refl, ap, ◌∙◌, subst, inl, inr, arith}
use Rattle.std.proofs.lemmas.Bool.{both_ways, not-true, eq-eqb, cases_lt, and_parts, cases_eq, cases_Bool, and_from, or_cases, or_parts, not_from_false}
use Rattle.protocol.specs.Hearing.{waits_for}
use Rattle.theory.specs.Repair.{sends}
use Rattle.theory.specs.NextHop.{same, next_hop, uses, AsNear}
use Rattle.theory.specs.Distance.{distance}
use Rattle.theory.specs.Network.{joins, without, Network, Lawful, LinkId}
use Rattle.theory.proofs.DistanceLaws.{distance_self, distance_over, distance_back, distance_symmetric}
use Rattle.theory.proofs.Repairs.{uses_self}
use Rattle.theory.proofs.NextHops.{same_eq, next_hop_is, next_hop_where}
use Rattle.theory.proofs.Joins.{joins_ends, same_link_lem}
use Rattle.theory.proofs.Without.{cost_left, lawful_without, untouched}
use Rattle.theory.proofs.Using.{one_end}
use Rattle.theory.proofs.HopPaths.{by_next_hops, uses_stop, uses_to}

pub uses_hop : (z : Network) (r : LinkId) (d a : ℕ) → uses z r d a ≡ true → (v : ℕ) × (next_hop z d a ≡ Some v)
uses_hop z r d a t = go (next_hop z d a) refl
  where
    go : (h : Option ℕ) → next_hop z d a ≡ h → (v : ℕ) × (next_hop z d a ≡ Some v)
    go None p = absurd (both_ways (uses z r d a) (uses_stop z r d a p) t)
    go (Some v) p = (v, p)

pub uses_elsewhere : (z : Network) (r : LinkId) (d a : ℕ) → uses z r d a ≡ true → a ≡ d → ⊥
uses_elsewhere z r d a t e = both_ways (uses z r d d) (uses_self z r d) (subst (λ x. uses z r d x ≡ true) e t)

-- a path that uses the link, and not at once, uses it later
pub uses_on : (z : Network) → Lawful z → (r : LinkId) (d a v : ℕ) → next_hop z d a ≡ Some v → uses z r d a ≡ true → joins r a v ≡ false → uses z r d v ≡ true
uses_on z g r d a v p t f = elim (or_cases (joins r a v) (uses z r d v) (sym (uses_to z g r d a v p) ∙ t)) [ inl j ↦ absurd (both_ways (joins r a v) f j) | inr u ↦ u ]

-- what holds where the path uses the link at once, and at a node if at its next hop, holds wherever the path uses the link
pub by_use : (z : Network) → Lawful z → (r : LinkId) (d : ℕ) (P : ℕ → Type 0) → ((a v : ℕ) → next_hop z d a ≡ Some v → joins r a v ≡ true → P a) →
    ((a v : ℕ) → next_hop z d a ≡ Some v → uses z r d a ≡ true → joins r a v ≡ false → P v → P a) → (a : ℕ) → uses z r d a ≡ true → P a
by_use z g r d P here on = by_next_hops z g d (λ a. uses z r d a ≡ true → P a)
    (λ a p t. absurd (both_ways (uses z r d a) (uses_stop z r d a p) t))
    (λ a v p i t. elim (cases_Bool (joins r a v)) [ inl j ↦ here a v p j | inr j ↦ on a v p t j (i (uses_on z g r d a v p t j)) ])

-- where s sends over the link to d, nobody else does
pub only_end : (z : Network) → Lawful z → (r : LinkId) (d s f a v : ℕ) → next_hop z d s ≡ Some f → joins r s f ≡ true → next_hop z d a ≡ Some v → joins r a v ≡ true → a ≡ s
only_end z g r d s f a v h e p j = elim (same_link_lem r s f a v e j) [
  | inl k ↦ k.0
  | inr k ↦ absurd (one_end z g s f d h (subst (λ x. next_hop z d f ≡ Some x) k.1 (subst (λ x. next_hop z d x ≡ Some v) k.0 p)))
]

-- who is left with a path has one from the next hop too
pub left_on : (z : Network) → Lawful z → (r : LinkId) (d a v c : ℕ) → next_hop z d a ≡ Some v → joins r a v ≡ false → distance (without r z) d a ≡ Some c → (b : ℕ) × (distance (without r z) d v ≡ Some b)
left_on z g r d a v c p j q =
    let n = (next_hop_is z d a v p).near in
    let w = distance_back (without r z) (lawful_without r z g) d a v c (omega (arith, n.link, cost_left r z a v j)) q in
    (w.0, w.1)

-- who had a path to the failed link is left with one to an end of it
pub some_end : (z : Network) → Lawful z → (r : LinkId) (u c : ℕ) → distance z r.a u ≡ Some c → ((b : ℕ) × (distance (without r z) r.a u ≡ Some b)) ⊎ ((b : ℕ) × (distance (without r z) r.b u ≡ Some b))
some_end z g r u c q = elim (cases_Bool (uses z r r.a u)) [
  | inr f ↦ inl (c, (untouched z g r r.a u f).same_distance ∙ q)
  | inl t ↦
      by_use z g r r.a (λ y. ((b : ℕ) × (distance w r.a y ≡ Some b)) ⊎ ((b : ℕ) × (distance w r.b y ≡ Some b)))
      (λ a v p j. elim (joins_ends r a v j) [ inl e ↦ inl (here r.a a e.0) | inr e ↦ inr (here r.b a e.0) ])
      (λ a v p s j i. let l = (next_hop_is z r.a a v p).near.link in elim i [ inl e ↦ inl (on r.a a v l j e.0 e.1) | inr e ↦ inr (on r.b a v l j e.0 e.1) ]) u t
]
  where
    w : Network
    w = without r z

    here : (d a : ℕ) → a ≡ d → (b : ℕ) × (distance (without r z) d a ≡ Some b)
    here d a e = (0, ap (λ x. distance (without r z) d x) e ∙ distance_self (without r z) (lawful_without r z g) d)

    on : (d a v : ℕ) → 0 < z.cost a v → joins r a v ≡ false → (b : ℕ) → distance (without r z) d v ≡ Some b → (b : ℕ) × (distance (without r z) d a ≡ Some b)
    on d a v l j b e = let k = distance_over (without r z) (lawful_without r z g) d a v b (omega (arith, l, cost_left r z a v j)) e in (k.0, k.1)

-- a destination that is not the node itself and has a next hop is a node of the network
pub dest_inside : (z : Network) → Lawful z → (d a v : ℕ) → next_hop z d a ≡ Some v → d < z.n
dest_inside z g d a v p =
    let n = (next_hop_is z d a v p).near in
    let c = distance_symmetric z g a d ∙ n.here in
    let i = next_hop_where z g a d (z.cost a v + n.rest) (λ e. (next_hop_is z d a v p).elsewhere (sym e)) c in
    (g.within d i.0 (next_hop_is z a d i.0 i.1).near.link).0

-- from a node whose path to the aim does not use the link, the next hop is the same before and after the failure, and so on all along
pub record Steady (z : Network) (r : LinkId) (aim u v : ℕ) : Type 0 where
  pub old : next_hop z aim u ≡ Some v
  pub new : next_hop (without r z) aim u ≡ Some v
  pub over : joins r u v ≡ false
  pub clear : uses z r aim v ≡ false
  pub near : AsNear z aim u v
  pub left : distance (without r z) aim v ≡ Some near.rest

pub steady : (z : Network) → Lawful z → (r : LinkId) (aim u c : ℕ) → (u ≡ aim → ⊥) → uses z r aim u ≡ false → distance z aim u ≡ Some c → (v : ℕ) × Steady z r aim u v
steady z g r aim u c ne f q =
    let h = next_hop_where z g aim u c ne q in
    let v = h.0 in
    let o = or_parts (joins r u v) (uses z r aim v) (sym (uses_to z g r aim u v h.1) ∙ f) in
    let n = (next_hop_is z aim u v h.1).near in
    (v, record { old = h.1; new = (untouched z g r aim u f).same_hop ∙ h.1; over = o.0; clear = o.1; near = n; left = (untouched z g r aim v o.1).same_distance ∙ n.there })

-- of the numbers below k that pass a test, one with the greatest value
pub record Greatest (k : ℕ) (p : ℕ → Bool) (f : ℕ → ℕ) : Type 0 where
  pub v : ℕ
  pub below : v < k
  pub passes : p v ≡ true
  pub most : (u : ℕ) → u < k → p u ≡ true → f u ≤ f v

pub greatest : (k : ℕ) (p : ℕ → Bool) (f : ℕ → ℕ) → ((u : ℕ) → u < k → p u ≡ false) ⊎ Greatest k p f
greatest zero p f = inl (λ u h. absurd (omega arith))
greatest (suc k) p f = go (cases_Bool (p k)) (greatest k p f)
  where
    last : (P : ℕ → Type 0) → P k → ((u : ℕ) → u < k → P u) → (u : ℕ) → u < suc k → P u
    last P h i u b = elim (cases_eq u k) [ inl e ↦ subst P (sym e) h | inr e ↦ i u (omega arith) ]

    go : (p k ≡ true) ⊎ (p k ≡ false) → ((u : ℕ) → u < k → p u ≡ false) ⊎ Greatest k p f → ((u : ℕ) → u < suc k → p u ≡ false) ⊎ Greatest (suc k) p f
    go (inr n) (inl none) = inl (last (λ u. p u ≡ false) n none)
    go (inr n) (inr w) = inr (record { v = w.v; below = omega (arith, w.below); passes = w.passes; most = last (λ u. p u ≡ true → f u ≤ f w.v) (λ t. absurd (both_ways (p k) n t)) w.most })
    go (inl t) (inl none) = inr (record { v = k; below = omega arith; passes = t; most = last (λ u. p u ≡ true → f u ≤ f k) (λ _. omega arith) (λ u b y. absurd (both_ways (p u) (none u b) y)) })
    go (inl t) (inr w) = elim (cases_lt (f w.v) (f k)) [
      | inl l ↦ inr (record { v = k; below = omega arith; passes = t; most = last (λ u. p u ≡ true → f u ≤ f k) (λ _. omega arith) (λ u b y. omega (arith, w.most u b y)) })
      | inr l ↦ inr (record { v = w.v; below = omega (arith, w.below); passes = w.passes; most = last (λ u. p u ≡ true → f u ≤ f w.v) (λ _. l) w.most })
    ]

abbrev or_zero : Option ℕ → ℕ
or_zero None = 0
or_zero (Some c) = c

-- a node whose path uses the link, that has not switched, and whose children have all switched
pub record Leaf (z : Network) (r : LinkId) (d : ℕ) (done : ℕ → Bool) : Type 0 where
  pub v : ℕ
  pub inside : v < z.n
  pub touched : uses z r d v ≡ true
  pub undone : done v ≡ false
  pub children : (u : ℕ) → next_hop z d u ≡ Some v → uses z r d u ≡ true → done u ≡ true

-- as long as not all have switched whose paths use the link there is one: the farthest
pub some_leaf : (z : Network) → Lawful z → (r : LinkId) (d : ℕ) (done : ℕ → Bool) → ((u : ℕ) → u < z.n → uses z r d u ≡ true → done u ≡ true) ⊎ Leaf z r d done
some_leaf z g r d done = elim (greatest z.n (λ u. uses z r d u && not (done u)) (λ u. or_zero (distance z d u))) [
  | inl none ↦ inl (λ u b t. elim (cases_Bool (done u)) [ inl y ↦ y | inr y ↦ absurd (both_ways (uses z r d u && not (done u)) (none u b) (and_from (uses z r d u) (not (done u)) t (not_from_false (done u) y))) ])
  | inr w ↦
      let p = and_parts (uses z r d w.v) (not (done w.v)) w.passes in
      inr (record {
        v = w.v;
        inside = w.below;
        touched = p.0;
        undone = not-true (done w.v) p.1;
        children = λ u h t. elim (cases_Bool (done u)) [
          | inl y ↦ y
          | inr y ↦
              let n = (next_hop_is z d u w.v h).near in
              let a : or_zero (distance z d u) ≡ z.cost u w.v + n.rest = ap or_zero n.here in
              let b : or_zero (distance z d w.v) ≡ n.rest = ap or_zero n.there in
              absurd (omega (arith, n.link, w.most u (g.within u w.v n.link).0 (and_from (uses z r d u) (not (done u)) t (not_from_false (done u) y))))
        ];
      })
]

-- whom a router waits for
pub waits_from : (z : Network) (r : LinkId) (d v u : ℕ) → uses z r d v ≡ true → next_hop z d u ≡ Some v → uses z r d u ≡ true → waits_for z r d v u ≡ true
waits_from z r d v u a h c =
    and_from (uses z r d v) (sends z u v d && uses z r d u) a (and_from (sends z u v d) (uses z r d u) (ap (λ o. same o (Some v)) h ∙ eq-eqb v v refl) c)

pub waits_parts : (z : Network) (r : LinkId) (d v u : ℕ) → waits_for z r d v u ≡ true → (uses z r d v ≡ true) × (next_hop z d u ≡ Some v) × (uses z r d u ≡ true)
waits_parts z r d v u h =
    let a = and_parts (uses z r d v) (sends z u v d && uses z r d u) h in
    let b = and_parts (sends z u v d) (uses z r d u) a.1 in
    (a.0, same_eq (next_hop z d u) (Some v) b.0, b.1)
