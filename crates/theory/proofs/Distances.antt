-- The distance is the least cost of any path, since a least path has no more links than there are nodes nearer. Assumes nothing.
use Rattle.std.proofs.Common.{◌≡◌, ℕ, zero, suc, ◌+◌, ◌<◌, ◌≤◌, Bool, true, false, cond, ltb, List, [], ◌∷◌, Some, None, Option, sym, refl, ap, ◌∙◌, subst, inl, inr, arith}
use Rattle.std.proofs.lemmas.Bool.{both_ways, ltb-true, lt-ltb, cases_lt, cases_eq, cases_Bool}
use Rattle.theory.specs.Distance.{IsPath, path_cost, distance_by, distance, Found}
use Rattle.theory.specs.Network.{Network, Lawful}
use Rattle.theory.proofs.Paths.{some_inj, Within, within_more, sound, one_more, complete, short}

-- m is the least cost of the paths from a to d
pub record Dist (z : Network) (d a m : ℕ) : Type 0 where
  pub found : Found z d a m
  pub least : (us : List ℕ) → IsPath z d a us → m ≤ path_cost z a us

pub dist_unique : (z : Network) (d a m k : ℕ) → Dist z d a m → Dist z d a k → m ≡ k
dist_unique z d a m k p q =
    let h = p.least q.found.nodes q.found.path in
    let j = q.least p.found.nodes p.found.path in
    omega (arith, p.found.cost, q.found.cost)

-- where there is a path there is a least one: paths that cost no more than it have no more links than its cost
pub dist_some : (z : Network) → Lawful z → (d a : ℕ) (ws : List ℕ) → IsPath z d a ws → (m : ℕ) × Dist z d a m
dist_some z g d a ws w =
    let k = path_cost z a ws in
    let i = complete k z g d a ws w (short z d a ws w) in
    let m = i.0 in (
      m,
      record {
        found = sound k z d a m i.1;
        least = λ us u. elim (cases_lt k (path_cost z a us)) [
          | inl h ↦ omega (arith, i.2)
          | inr h ↦
              let j = complete k z g d a us u (omega (arith, short z d a us u)) in
              let e : m ≡ j.0 = some_inj m j.0 (sym i.1 ∙ j.1) in
              omega (arith, j.2)
        ];
      },
    )

-- counting nodes

unfoldable pub count : ℕ → (ℕ → Bool) → ℕ
count zero p = 0
count (suc k) p = count k p + cond (p k) 1 0

pub one_most : (b : Bool) → cond b 1 0 ≤ 1
one_most true = omega arith
one_most false = omega arith

one_less : (b c : Bool) → (b ≡ true → c ≡ true) → cond b 1 0 ≤ cond c 1 0
one_less true true h = omega arith
one_less true false h = absurd (both_ways false refl (h refl))
one_less false true h = omega arith
one_less false false h = omega arith

pub count_most : (k : ℕ) (p : ℕ → Bool) → count k p ≤ k
unfolding count
count_most zero p = omega arith
count_most (suc k) p = omega (arith, count_most k p, one_most (p k))

pub count_le : (k : ℕ) (p q : ℕ → Bool) → ((e : ℕ) → p e ≡ true → q e ≡ true) → count k p ≤ count k q
unfolding count
count_le zero p q h = omega arith
count_le (suc k) p q h = omega (arith, count_le k p q h, one_less (p k) (q k) (h k))

pub count_lt : (k : ℕ) (p q : ℕ → Bool) → ((e : ℕ) → p e ≡ true → q e ≡ true) → (e : ℕ) → e < k → p e ≡ false → q e ≡ true → count k p < count k q
unfolding count
count_lt zero p q h e l f t = absurd (omega arith)
count_lt (suc k) p q h e l f t =
    elim (cases_eq e k) [
      | inl x ↦
          let a : ◌≡◌ {A = ℕ} (cond (p k) 1 0) 0 = rw (← x, f) in
          let b : ◌≡◌ {A = ℕ} (cond (q k) 1 0) 1 = rw (← x, t) in
          omega (arith, count_le k p q h)
      | inr x ↦ omega (arith, count_lt k p q h e (omega arith) f t, one_less (p k) (q k) (h k))
    ]

pub count_miss : (k : ℕ) (p : ℕ → Bool) (e : ℕ) → e < k → p e ≡ false → count k p < k
unfolding count
count_miss zero p e l f = absurd (omega arith)
count_miss (suc k) p e l f =
    elim (cases_eq e k) [
      | inl x ↦ let a : ◌≡◌ {A = ℕ} (cond (p k) 1 0) 0 = rw (← x, f) in omega (arith, count_most k p)
      | inr x ↦ omega (arith, count_miss k p e (omega arith) f, one_most (p k))
    ]

-- nodes nearer to d than v

abbrev pub below : ℕ → Option ℕ → Bool
below v None = false
below v (Some c) = ltb c v

abbrev pub closer : Network → ℕ → ℕ → ℕ → Bool
closer z d v e = below v (distance_by v z d e)

closer_of : (z : Network) → Lawful z → (d v e : ℕ) (ws : List ℕ) → IsPath z d e ws → path_cost z e ws < v → closer z d v e ≡ true
closer_of z g d v e ws w h =
    let i = complete v z g d e ws w (omega (arith, short z d e ws w)) in
    ap (below v) i.1 ∙ lt-ltb i.0 v (omega arith)

pub record Nearer (z : Network) (d v e : ℕ) : Type 0 where
  pub nodes : List ℕ
  pub path : IsPath z d e nodes
  pub less : path_cost z e nodes < v

closer_from : (z : Network) (d v e : ℕ) → closer z d v e ≡ true → Nearer z d v e
closer_from z d v e t = go (distance_by v z d e) refl t
  where
    go : (f : Option ℕ) → distance_by v z d e ≡ f → below v f ≡ true → Nearer z d v e
    go None p t = absurd (both_ways false refl t)
    go (Some c) p t = let s = sound v z d e c p in record { nodes = s.nodes; path = s.path; less = omega (arith, s.cost, ltb-true c v t) }

-- how many nodes are nearer to d than v
unfoldable pub rank : Network → ℕ → ℕ → ℕ
rank z d v = count z.n (λ e. closer z d v e)

pub rank_most : (z : Network) (d v : ℕ) → rank z d v ≤ z.n
unfolding rank
rank_most z d v = count_most z.n (λ e. closer z d v e)

not_closer : (z : Network) (d e c : ℕ) → Dist z d e c → closer z d c e ≡ false
not_closer z d e c p =
    elim (cases_Bool (closer z d c e)) [ inl t ↦ let s = closer_from z d c e t in absurd (omega (arith, p.least s.nodes s.path, s.less)) | inr f ↦ f ]

-- a node is not nearer than itself
pub rank_less : (z : Network) (d e c : ℕ) → e < z.n → Dist z d e c → rank z d c < z.n
unfolding rank
rank_less z d e c l p = count_miss z.n (λ x. closer z d c x) e l (not_closer z d e c p)

pub rank_falls : (z : Network) → Lawful z → (d e c v : ℕ) → e < z.n → Dist z d e c → c < v → rank z d c < rank z d v
unfolding rank
rank_falls z g d e c v l p h =
    count_lt z.n (λ x. closer z d c x) (λ x. closer z d v x)
    (λ x t. let s = closer_from z d c x t in closer_of z g d v x s.nodes s.path (omega (arith, s.less)))
    e l
    (not_closer z d e c p)
    (closer_of z g d v e p.found.nodes p.found.path (omega (arith, p.found.cost)))

-- the first link of a least path leads on by a least path
pub dist_tail : (z : Network) → (d a y : ℕ) (ys : List ℕ) (m : ℕ) → IsPath z d a (y ∷ ys) → path_cost z a (y ∷ ys) ≡ m → ((us : List ℕ) → IsPath z d a us → m ≤ path_cost z a us) → Dist z d y (path_cost z y ys)
unfolding path_cost
dist_tail z d a y ys m w e l =
    record { found = record { nodes = ys; path = w.1; cost = refl }; least = λ us u. omega (arith, l (y ∷ us) (w.0, u)) }

-- what distance_by finds is never below the least cost
pub not_below : (k : ℕ) (z : Network) (d a m : ℕ) → Dist z d a m → Within (distance_by k z d a) m → distance_by k z d a ≡ Some m
not_below k z d a m p w =
    let s = sound k z d a w.0 w.1 in
    let e : w.0 ≡ m = omega (arith, p.least s.nodes s.path, s.cost, w.2) in
    w.1 ∙ ap Some e

-- as many rounds as there are nearer nodes are enough
pub settled : (k : ℕ) (z : Network) → Lawful z → (d a m : ℕ) → Dist z d a m → (ws : List ℕ) → IsPath z d a ws → path_cost z a ws ≡ m → rank z d m ≤ k → distance_by k z d a ≡ Some m
unfolding path_cost
settled k z g d a m p [] w e h = not_below k z d a m p (within_more (distance_by k z d a) 0 m (omega arith) (complete k z g d a [] w (omega arith)))
settled zero z g d a m p (y ∷ ys) w e h =
    absurd (omega (arith, rank_falls z g d y (path_cost z y ys) m (g.within a y w.0).1 (dist_tail z d a y ys m w e p.least) (omega (arith, w.0))))
settled (suc k) z g d a m p (y ∷ ys) w e h =
    let c = path_cost z y ys in
    let q = dist_tail z d a y ys m w e p.least in
    let l = rank_falls z g d y c m (g.within a y w.0).1 q (omega (arith, w.0)) in
    let i = settled k z g d y c q ys w.1 refl (omega arith) in
    not_below (suc k) z d a m p (within_more (distance_by (suc k) z d a) (z.cost a y + c) m (omega arith) (one_more k z g d a y c w.0 i))

pub distance_dist : (z : Network) → Lawful z → (d a m : ℕ) → Dist z d a m → distance z d a ≡ Some m
distance_dist z g d a m p = settled z.n z g d a m p p.found.nodes p.found.path p.found.cost (rank_most z d m)

pub dist_distance : (z : Network) → Lawful z → (d a m : ℕ) → distance z d a ≡ Some m → Dist z d a m
dist_distance z g d a m p =
    let s = sound z.n z d a m p in
    let q = dist_some z g d a s.nodes s.path in
    let e : q.0 ≡ m = some_inj q.0 m (sym (distance_dist z g d a q.0 q.1) ∙ p) in
    subst (λ x. Dist z d a x) e q.1
