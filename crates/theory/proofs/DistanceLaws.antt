-- Laws of distances: least of all paths, from a node to itself, over one link, by way of a third node, and both ways. Assumes nothing.
use Rattle.std.proofs.Common.{◌≡◌, ℕ, ◌+◌, ◌<◌, List, [], ◌∷◌, ◌++◌, Some, None, Option, sym, refl, ap, ◌∙◌, subst, arith}
use Rattle.theory.specs.Distance.{IsPath, path_cost, distance, Found}
use Rattle.theory.specs.Network.{Network, Lawful}
use Rattle.theory.proofs.Distances.{dist_some, distance_dist}
use Rattle.theory.proofs.Paths.{some_inj, none_some, Within, within_more, sound}

-- what every distance is

pub distance_least : (z : Network) → Lawful z → (d a : ℕ) (ws : List ℕ) → IsPath z d a ws → Within (distance z d a) (path_cost z a ws)
distance_least z g d a ws w =
    let p = dist_some z g d a ws w in
    (p.0, distance_dist z g d a p.0 p.1, p.1.least ws w)

pub distance_none : (z : Network) → Lawful z → (d a : ℕ) → ((ws : List ℕ) → IsPath z d a ws → ⊥) → distance z d a ≡ None
distance_none z g d a h = go (distance z d a) refl
  where
    go : (f : Option ℕ) → distance z d a ≡ f → distance z d a ≡ None
    go None p = p
    go (Some c) p = let s = sound z.n z d a c p in absurd (h s.nodes s.path)

pub none_distance : (z : Network) → Lawful z → (d a : ℕ) → distance z d a ≡ None → (ws : List ℕ) → IsPath z d a ws → ⊥
none_distance z g d a p ws w = let h = distance_least z g d a ws w in none_some h.0 (sym p ∙ h.1)

pub distance_self : (z : Network) → Lawful z → (d : ℕ) → distance z d d ≡ Some 0
unfolding path_cost
distance_self z g d = distance_dist z g d d 0 (record { found = record { nodes = []; path = refl; cost = refl }; least = λ us u. omega arith })

pub distance_zero : (z : Network) → Lawful z → (d a : ℕ) → distance z d a ≡ Some 0 → a ≡ d
unfolding path_cost
distance_zero z g d a p = let s = sound z.n z d a 0 p in go s.nodes s.path s.cost
  where
    go : (ws : List ℕ) → IsPath z d a ws → path_cost z a ws ≡ 0 → a ≡ d
    go [] w e = w
    go (y ∷ ys) w e = absurd (omega (arith, w.0))

-- over one link
pub distance_over : (z : Network) → Lawful z → (d a e c : ℕ) → 0 < z.cost a e → distance z d e ≡ Some c → Within (distance z d a) (z.cost a e + c)
unfolding path_cost
distance_over z g d a e c r p =
    let s = sound z.n z d e c p in
    let h = distance_least z g d a (e ∷ s.nodes) (r, s.path) in
    within_more (distance z d a) (z.cost a e + path_cost z e s.nodes) (z.cost a e + c) (omega (arith, s.cost)) h

pub distance_back : (z : Network) → Lawful z → (d a e c : ℕ) → 0 < z.cost a e → distance z d a ≡ Some c → Within (distance z d e) (z.cost a e + c)
distance_back z g d a e c r p = rw (g.symmetric a e) (distance_over z g d e a c (rw (g.symmetric a e) at r) p)

-- by way of a third node

path_on : (z : Network) (d b a : ℕ) (ws us : List ℕ) → IsPath z b a ws → IsPath z d b us → IsPath z d a (ws ++ us)
path_on z d b a [] us w u = subst (λ x. IsPath z d x us) (sym w) u
path_on z d b a (y ∷ ys) us w u = (w.0, path_on z d b y ys us w.1 u)

cost_on : (z : Network) (b a : ℕ) (ws us : List ℕ) → IsPath z b a ws → path_cost z a (ws ++ us) ≡ path_cost z a ws + path_cost z b us
unfolding path_cost
cost_on z b a [] us w = rw w (omega arith)
cost_on z b a (y ∷ ys) us w = omega (arith, cost_on z b y ys us w.1)

pub distance_by_lem : (z : Network) → Lawful z → (d b a p q : ℕ) → distance z b a ≡ Some p → distance z d b ≡ Some q → Within (distance z d a) (p + q)
distance_by_lem z g d b a p q h j =
    let s = sound z.n z b a p h in
    let t = sound z.n z d b q j in
    let k = distance_least z g d a (s.nodes ++ t.nodes) (path_on z d b a s.nodes t.nodes s.path t.path) in
    within_more (distance z d a) (path_cost z a (s.nodes ++ t.nodes)) (p + q) (omega (arith, cost_on z b a s.nodes t.nodes s.path, s.cost, t.cost)) k

-- both ways: a path turned round, on from one already walked

turned : (z : Network) → Lawful z → (d a b : ℕ) (ws us : List ℕ) → IsPath z d a ws → IsPath z b a us → Found z b d (path_cost z a ws + path_cost z a us)
unfolding path_cost
turned z g d a b [] us w u = record { nodes = us; path = subst (λ x. IsPath z b x us) w u; cost = rw (← w) (omega arith) }
turned z g d a b (y ∷ ys) us w u =
    let h = turned z g d y b ys (a ∷ us) w.1 (rw (g.symmetric a y) at w.0, u) in
    record { nodes = h.nodes; path = h.path; cost = omega (arith, h.cost, g.symmetric a y) }

distance_turned : (z : Network) → Lawful z → (d a c : ℕ) → distance z d a ≡ Some c → Within (distance z a d) c
unfolding path_cost
distance_turned z g d a c p =
    let s = sound z.n z d a c p in
    let t = turned z g d a a s.nodes [] s.path refl in
    within_more (distance z a d) (path_cost z d t.nodes) c (omega (arith, t.cost, s.cost)) (distance_least z g a d t.nodes t.path)

pub distance_symmetric : (z : Network) → Lawful z → (d a : ℕ) → distance z d a ≡ distance z a d
distance_symmetric z g d a = go (distance z d a) (distance z a d) refl refl
  where
    go : (f h : Option ℕ) → distance z d a ≡ f → distance z a d ≡ h → distance z d a ≡ distance z a d
    go None None p q = p ∙ sym q
    go None (Some c) p q = let t = distance_turned z g a d c q in absurd (none_some t.0 (sym p ∙ t.1))
    go (Some b) None p q = let t = distance_turned z g d a b p in absurd (none_some t.0 (sym q ∙ t.1))
    go (Some b) (Some c) p q =
        let t = distance_turned z g d a b p in
        let s = distance_turned z g a d c q in
        let i : c ≡ t.0 = some_inj c t.0 (sym q ∙ t.1) in
        let j : b ≡ s.0 = some_inj b s.0 (sym p ∙ s.1) in
        let e : b ≡ c = omega (arith, t.2, s.2) in
        p ∙ (ap Some e ∙ sym q)
