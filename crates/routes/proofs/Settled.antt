-- Dijkstra's algorithm: settled nodes keep their distances, and in the end each is the least.
use Rattle.std.proofs.Common.{◌≡◌, ℕ, ◌+◌, ◌<◌, ◌≤◌, Bool, true, false, ◌&&◌, eqb, ltb, ◌⊎◌, List, [], ◌∷◌, length, get_or, set, Some, None, sym, refl, ap, ◌∙◌, subst, inl, inr, arith, length-set, Option}
use Rattle.std.proofs.lemmas.Bool.{both_ways, and_from, and_right, ltb-true, ltb-false, lt-ltb, eq-eqb, ne_eqb, cases_lt, and_parts, cases_eq, cases_Bool, and_cases, cond-true, cond-false, cond_both}
use Rattle.std.proofs.lemmas.List.{get_or-set_same, get_or-set_other}
use Rattle.routes.specs.Distances.{decoded, Filled}
use Rattle.routes.specs.Dijkstra.{relaxed, RelaxesFor, NoneNearer, Nearest}
use Rattle.routes.specs.Dijkstra.{Partly, Standing}
use Rattle.types.specs.NodeSets.{has}
use Rattle.types.specs.declared.node_set.NodeSet.{NodeSet}
use Rattle.routes.proofs.Sets as sets
use Rattle.routes.proofs.Sets.{left_in, gone, same_other}
use Rattle.theory.specs.Distance.{IsPath, path_cost, distance, Found}
use Rattle.theory.specs.Network.{Network, Lawful, Limited}
use Rattle.theory.proofs.Distances.{distance_dist}
use Rattle.theory.proofs.HopPaths.{bounded}
use Rattle.theory.proofs.Paths.{sound}

-- no path from a free node costs less than the nearest of them is far
pub free_least : (z : Network) → Lawful z → (d : ℕ) (o : ℕ → Bool) (f : ℕ → ℕ) → Partly z d o f → (m : ℕ) → ((k : ℕ) → k < z.n → o k ≡ true → m ≤ f k) →
    (v : ℕ) (ws : List ℕ) → v < z.n → o v ≡ true → IsPath z d v ws → m ≤ path_cost z v ws
unfolding path_cost
free_least z g d o f h m least v [] l t w =
    let q : f v ≡ 0 = ap f w ∙ h.start in
    omega (arith, least v l t)
free_least z g d o f h m least v (y ∷ ys) l t w =
    let i = (g.within v y w.0).1 in
    elim (cases_Bool (o y)) [
      | inl p ↦ omega (arith, free_least z g d o f h m least y ys i p w.1)
      | inr p ↦
          let b = g.symmetric v y in
          omega (arith, least v l t, h.links y v p (omega (arith, w.0)), h.right y i p ys w.1)
    ]

-- what relaxing one link does
pub record Relaxed (k here there now : ℕ) : Type 0 where
  pub less : now ≤ there
  pub over : 0 < k → now ≤ k + here
  pub one : (now ≡ there) ⊎ ((0 < k) × (now ≡ k + here))

pub relaxed_is : (k here there : ℕ) → Relaxed k here there (relaxed k here there)
relaxed_is k here there =
    let b = ltb 0 k && ltb (here + k) there in
    cond_both b (here + k) there (Relaxed k here there)
    (λ t.
    let p = and_parts (ltb 0 k) (ltb (here + k) there) t in
    record { less = omega (arith, ltb-true (here + k) there p.1); over = λ _. omega arith; one = inr (ltb-true 0 k p.0, omega arith) })
    (λ t. record {
      less = omega arith;
      over = λ h. elim (and_cases (ltb 0 k) (ltb (here + k) there) t) [ inl x ↦ absurd (both_ways (ltb 0 k) x (lt-ltb 0 k h)) | inr x ↦ omega (arith, ltb-false (here + k) there x) ];
      one = inl refl;
    })

-- a link by which it is not nearer changes nothing
not_nearer : (k here there : ℕ) → (0 < k → there ≤ k + here) → relaxed k here there ≡ there
not_nearer k here there h =
    let x = relaxed_is k here there in
    elim x.one [ inl e ↦ e | inr y ↦ omega (arith, x.less, y.1, h y.0) ]

-- a settled node is not nearer by a link from one that has a distance
link_to_settled : (z : Network) → Lawful z → (d : ℕ) (o : ℕ → Bool) (f : ℕ → ℕ) → Partly z d o f → (u : ℕ) → u < z.n → f u < 4294967295 →
    (e : ℕ) → e < z.n → o e ≡ false → 0 < z.cost u e → f e ≤ z.cost u e + f u
unfolding path_cost
link_to_settled z g d o f h u l s e m q k =
    let b = g.symmetric u e in
    let w = h.found u l s in
    omega (arith, h.right e m q (u ∷ w.nodes) (omega arith, w.path), w.cost)

-- u is settled
pub record Picks (z : Network) (o : ℕ → Bool) (f : ℕ → ℕ) (u : ℕ) : Type 0 where
  pub within : u < z.n
  pub free : o u ≡ true
  pub some : f u < 4294967295
  pub least : (k : ℕ) → k < z.n → o k ≡ true → f u ≤ f k

pub record Less (u : ℕ) (o p : ℕ → Bool) : Type 0 where
  pub here : p u ≡ false
  pub others : (k : ℕ) → (k ≡ u → ⊥) → p k ≡ o k

was_free : (u : ℕ) (o p : ℕ → Bool) → Less u o p → (k : ℕ) → p k ≡ true → o k ≡ true
was_free u o p w k t = elim (cases_eq k u) [ inl e ↦ absurd (both_ways (p u) w.here (ap p (sym e) ∙ t)) | inr h ↦ sym (w.others k h) ∙ t ]

-- a settled node, before or now
settled_cases : (u : ℕ) (o p : ℕ → Bool) → Less u o p → (k : ℕ) → p k ≡ false → (k ≡ u) ⊎ (o k ≡ false)
settled_cases u o p w k t = elim (cases_eq k u) [ inl e ↦ inl e | inr h ↦ inr (sym (w.others k h) ∙ t) ]

-- one turn: u is settled, and its links to free nodes are relaxed
pub record Turn (z : Network) (d : ℕ) (o p : ℕ → Bool) (f g : ℕ → ℕ) (u : ℕ) : Type 0 where
  pub lawful : Lawful z
  pub before : Partly z d o f
  pub aim : d < z.n
  pub picks : Picks z o f u
  pub less : Less u o p
  pub relaxes : (e : ℕ) → e < z.n → p e ≡ true → Relaxed (z.cost u e) (f u) (f e) (g e)
  pub kept : (e : ℕ) → e < z.n → p e ≡ false → g e ≡ f e

module _ (z : Network) (d : ℕ) (o p : ℕ → Bool) (f g : ℕ → ℕ) (u : ℕ) (t : Turn z d o p f g u) where
  path_of_u : Found z d u (f u)
  path_of_u = t.before.found u t.picks.within t.picks.some

  settles : (ws : List ℕ) → IsPath z d u ws → f u ≤ path_cost z u ws
  settles ws w = free_least z t.lawful d o f t.before (f u) t.picks.least u ws t.picks.within t.picks.free w

  falls : (v : ℕ) → v < z.n → g v ≤ f v
  falls v l = elim (cases_Bool (p v)) [ inl x ↦ (t.relaxes v l x).less | inr x ↦ omega (arith, t.kept v l x) ]

  found_on : (v : ℕ) → v < z.n → g v < 4294967295 → Found z d v (g v)
  unfolding path_cost
  found_on v l h = elim (cases_Bool (p v)) [
    | inr x ↦ subst (Found z d v) (sym (t.kept v l x)) (t.before.found v l (omega (arith, t.kept v l x)))
    | inl x ↦ elim (t.relaxes v l x).one [
      | inl e ↦ subst (Found z d v) (sym e) (t.before.found v l (omega arith))
      | inr y ↦
          let w = path_of_u in
          let b = t.lawful.symmetric u v in
          record { nodes = u ∷ w.nodes; path = (omega (arith, y.0), w.path); cost = omega (arith, w.cost, y.1) }
    ]
  ]

  -- from u to a settled node
  link_back : (e : ℕ) → e < z.n → o e ≡ false → 0 < z.cost u e → f e ≤ z.cost u e + f u
  link_back = link_to_settled z t.lawful d o f t.before u t.picks.within t.picks.some

  link_of_u : (e : ℕ) → e < z.n → 0 < z.cost u e → g e ≤ z.cost u e + f u
  link_of_u e l h = elim (cases_Bool (p e)) [
    | inl x ↦ (t.relaxes e l x).over h
    | inr x ↦ elim (settled_cases u o p t.less e x) [
      | inl y ↦ let k : z.cost u e ≡ 0 = ap (z.cost u) y ∙ t.lawful.loopless u in absurd (omega arith)
      | inr y ↦ omega (arith, t.kept e l x, link_back e l y h)
    ]
  ]

  links_on : (x e : ℕ) → p x ≡ false → 0 < z.cost x e → g e ≤ z.cost x e + g x
  links_on x e q r =
      let l = t.lawful.within x e r in
      let k = t.kept x l.0 q in
      elim (settled_cases u o p t.less x q) [
        | inl y ↦
            let b : z.cost x e ≡ z.cost u e = ap (λ i. z.cost i e) y in
            let c : f x ≡ f u = ap f y in
            omega (arith, link_of_u e l.1 (omega arith))
        | inr y ↦ omega (arith, t.before.links x e y r, falls e l.1)
      ]

  right_on : (v : ℕ) → v < z.n → p v ≡ false → (ws : List ℕ) → IsPath z d v ws → g v ≤ path_cost z v ws
  right_on v l q ws w = elim (settled_cases u o p t.less v q) [
    | inl y ↦ subst (λ i. g i ≤ path_cost z i ws) (sym y) (let c = falls u t.picks.within in omega (arith, settles ws (subst (λ i. IsPath z d i ws) y w)))
    | inr y ↦ omega (arith, t.before.right v l y ws w, falls v l)
  ]

  partly_more : Partly z d p g
  partly_more = record {
    start = omega (arith, falls d t.aim, t.before.start);
    top = λ v l. omega (arith, falls v l, t.before.top v l);
    found = found_on;
    right = right_on;
    links = links_on;
  }

-- before the first turn: all are free
partly_none : (z : Network) → Lawful z → (d : ℕ) (o : ℕ → Bool) (f : ℕ → ℕ) → ((k : ℕ) → k < z.n → o k ≡ true) → f d ≡ 0 → ((k : ℕ) → k < z.n → (k ≡ d → ⊥) → f k ≡ 4294967295) → Partly z d o f
unfolding path_cost
partly_none z g d o f all s n =
    record {
      start = s;
      top = λ v m. elim (cases_eq v d) [ inl e ↦ let q : f v ≡ 0 = ap f e ∙ s in omega arith | inr x ↦ omega (arith, n v m x) ];
      found = λ v m h. elim (cases_eq v d) [
        | inl e ↦ let q : f v ≡ 0 = ap f e ∙ s in record { nodes = []; path = e; cost = sym q }
        | inr x ↦ absurd (omega (arith, n v m x))
      ];
      right = λ u m h. absurd (both_ways (o u) h (all u m));
      links = λ u e h r. absurd (both_ways (o u) h (all u (g.within u e r).0));
    }

-- after the last one: no free node has a distance
partly_all : (z : Network) → Lawful z → Limited z → (d : ℕ) (o : ℕ → Bool) (f : ℕ → ℕ) → Partly z d o f → ((k : ℕ) → k < z.n → o k ≡ true → 4294967295 ≤ f k) →
    (a : ℕ) → a < z.n → decoded (f a) ≡ distance z d a
partly_all z g s d o f h none a l = elim (cases_lt (f a) 4294967295) [
  | inl x ↦
      cond-false (eqb (f a) 4294967295) None (Some (f a)) (ne_eqb (f a) 4294967295 (λ e. omega arith)) ∙
      sym (distance_dist z g d a (f a) (record { found = h.found a l x; least = λ ws w. least ws w }))
  | inr x ↦
      cond-true (eqb (f a) 4294967295) None (Some (f a)) (eq-eqb (f a) 4294967295 (omega (arith, h.top a l))) ∙ sym (go x (distance z d a) refl)
]
  where
    least : (ws : List ℕ) → IsPath z d a ws → f a ≤ path_cost z a ws
    least ws w = elim (cases_Bool (o a)) [
      | inl t ↦ omega (arith, free_least z g d o f h 4294967295 none a ws l t w, h.top a l)
      | inr t ↦ h.right a l t ws w
    ]

    go : 4294967295 ≤ f a → (x : Option ℕ) → distance z d a ≡ x → distance z d a ≡ None
    go x None e = e
    go x (Some c) e =
        let w = sound z.n z d a c e in
        absurd (omega (arith, least w.nodes w.path, w.cost, bounded z g s d a c e))

-- the same of what stands in memory
module _ (z : Network) (g : Lawful z) (s : Limited z) (d : ℕ) where
  pub stands_none : (o : NodeSet) (dist : List ℕ) → ((v : ℕ) → has o v ≡ (ltb v z.n && ltb v 64)) → d < z.n → length dist ≡ z.n → ((v : ℕ) → v < length dist → get_or dist v 0 ≡ 4294967295) → Standing z d o (set dist d 0)
  stands_none o dist q h n e =
      let here : get_or (set dist d 0) d 0 ≡ 0 = get_or-set_same dist d 0 0 (omega arith) in
      let others : (v : ℕ) → v < z.n → (v ≡ d → ⊥) → get_or (set dist d 0) v 0 ≡ 4294967295 =
      λ v p ne. get_or-set_other dist d v 0 0 ne ∙ e v (omega arith) in
      record {
        within = λ v t. ltb-true v z.n (and_parts (ltb v z.n) (ltb v 64) (sym (q v) ∙ t)).0;
        size = length-set dist d 0 ∙ n;
        aim = h;
        part = partly_none z g d (has o) (λ v. get_or (set dist d 0) v 0) (λ v p. q v ∙ and_from (ltb v z.n) (ltb v 64) (lt-ltb v z.n p) (lt-ltb v 64 (omega (arith, s.few)))) here others;
      }

  module _ (o : NodeSet) (dist : List ℕ) (i : Standing z d o dist) where
    pub stands_all : NoneNearer o dist → Filled z d dist
    stands_all n = record { size = i.size; each = λ a h. partly_all z g s d (has o) (λ v. get_or dist v 0) i.part (λ v p q. n v q) a h }

    -- the nearest of them is settled
    module _ (u : ℕ) (n : Nearest o dist u) (less : NodeSet) (t : sets.Less u o less) where
      picks_of : Picks z (has o) (λ v. get_or dist v 0) u
      picks_of = record { within = i.within u n.in_set; free = n.in_set; some = n.some; least = λ v p q. n.least v q }

      less_of : Less u (has o) (has less)
      less_of = record { here = gone o less u t; others = λ v ne. same_other o less u t v ne }

      pub stands_more : (new : List ℕ) → RelaxesFor z u (get_or dist u 0) less dist new → Standing z d less new
      stands_more new r =
          record {
            within = λ v h. i.within v (left_in o less u t v h);
            size = r.size ∙ i.size;
            aim = i.aim;
            part = partly_more z d (has o) (has less) (λ v. get_or dist v 0) (λ v. get_or new v 0) u (record {
              lawful = g;
              before = i.part;
              aim = i.aim;
              picks = picks_of;
              less = less_of;
              relaxes = λ e h p. elim (r.each e h) [
                | inl y ↦
                    subst (Relaxed (z.cost u e) (get_or dist u 0) (get_or dist e 0)) (sym y) (relaxed_is (z.cost u e) (get_or dist u 0) (get_or dist e 0))
                | inr y ↦ absurd (both_ways (has less e) y.0 p)
              ];
              kept = λ e h p. elim (r.each e h) [ inl y ↦ y ∙ stays e h p | inr y ↦ y.1 ];
            });
          }
        where
          stays : (e : ℕ) → e < z.n → has less e ≡ false → relaxed (z.cost u e) (get_or dist u 0) (get_or dist e 0) ≡ get_or dist e 0
          stays e h p = not_nearer (z.cost u e) (get_or dist u 0) (get_or dist e 0) (λ k. elim (settled_cases u (has o) (has less) less_of e p) [
            | inl y ↦ let n : z.cost u e ≡ 0 = ap (z.cost u) y ∙ g.loopless u in absurd (omega arith)
            | inr y ↦ link_to_settled z g d (has o) (λ v. get_or dist v 0) i.part u picks_of.within picks_of.some e h y k
          ])
