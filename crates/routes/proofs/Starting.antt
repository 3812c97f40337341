-- The distances of the nodes that a change touches, begun from those of the others.
use Rattle.std.proofs.Common.{◌≡◌, ℕ, ◌+◌, ◌<◌, ◌≤◌, true, false, not, ◌&&◌, eqb, ltb, ◌⊎◌, List, [], ◌∷◌, length, get_or, set, Some, None, sym, refl, ap, ◌∙◌, subst, inl, inr, arith, length-set}
use Rattle.std.proofs.lemmas.Bool.{both_ways, ltb-true, lt-ltb, eq-eqb, ne_eqb, not-true, cases_eq, cases_Bool, and_parts, and_from, cond-true, cond-false}
use Rattle.std.proofs.lemmas.List.{get_or-set_same, get_or-set_other}
use Rattle.theory.specs.Network.{Network, Lawful, Limited}
use Rattle.theory.specs.Distance.{IsPath, path_cost, distance, Found}
use Rattle.theory.proofs.Distances.{Dist, dist_distance}
use Rattle.theory.proofs.DistanceLaws.{none_distance}
use Rattle.theory.proofs.HopPaths.{bounded}
use Rattle.types.specs.Change.{changed}
use Rattle.types.specs.declared.change.Change.{Change}
use Rattle.types.specs.NodeSets.{has}
use Rattle.types.specs.declared.node_set.NodeSet.{NodeSet}
use Rattle.routes.specs.Distances.{Filled}
use Rattle.routes.specs.Dijkstra.{LeastOver, Standing}
use Rattle.routes.specs.Touched.{Touched}
use Rattle.routes.specs.Routes.{routes_network}
use Rattle.routes.specs.declared.routes.Routes.{Routes}
use Rattle.routes.proofs.Changes.{changed_lawful, changed_nodes, routes_lawful, routes_limited}
use Rattle.routes.proofs.Sets.{Less, left_in, same_other}

-- the nodes of t have begun with their links to the others in y, but for those of rest; the others are as in old
pub record Begun (y : Network) (d : ℕ) (t rest : NodeSet) (old dist : List ℕ) : Type 0 where
  pub some : (v : ℕ) → has rest v ≡ true → has t v ≡ true
  pub size : length dist ≡ y.n
  pub others : (v : ℕ) → v < y.n → has t v ≡ false → get_or dist v 0 ≡ get_or old v 0
  pub top : (v : ℕ) → v < y.n → has t v ≡ true → has rest v ≡ false → get_or dist v 0 ≤ 4294967295
  pub found : (v : ℕ) → v < y.n → has t v ≡ true → has rest v ≡ false → get_or dist v 0 < 4294967295 → Found y d v (get_or dist v 0)
  pub over : (v e : ℕ) → has t v ≡ true → has rest v ≡ false → 0 < y.cost v e → has t e ≡ false → get_or dist v 0 ≤ y.cost v e + get_or old e 0

-- the nodes of t are touched, and old has the distances before
pub record Setting (z y : Network) (d : ℕ) (t : NodeSet) (old : List ℕ) : Type 0 where
  pub before : Lawful z
  pub limited : Limited z
  pub after : Lawful y
  pub nodes : y.n ≡ z.n
  pub aim : d < z.n
  pub touched : Touched z y d t
  pub row : Filled z d old

pub setting : (r : Routes) (c : Change) (d : ℕ) (t : NodeSet) (old : List ℕ) → d < (routes_network r).n → Touched (routes_network r) (changed c (routes_network r)) d t → Filled (routes_network r) d old →
    Setting (routes_network r) (changed c (routes_network r)) d t old
setting r c d t old aim touched row = record {
  before = routes_lawful r;
  limited = routes_limited r;
  after = changed_lawful c (routes_network r) (routes_lawful r);
  nodes = changed_nodes c (routes_network r);
  aim = aim;
  touched = touched;
  row = row;
}

module _ (z y : Network) (d : ℕ) (t : NodeSet) (old : List ℕ) (g : Setting z y d t old) where
  abbrev f : ℕ → ℕ
  f v = get_or old v 0

  -- a node that isn't touched has no path, as before, or its distance, as before
  stays : (v : ℕ) → v < y.n → has t v ≡ false → (f v < 4294967295) × Dist y d v (f v) ⊎ (f v ≡ 4294967295) × ((ws : List ℕ) → IsPath y d v ws → ⊥)
  stays v p h =
      let l : v < z.n = omega (arith, g.nodes) in
      elim (cases_eq (f v) 4294967295) [
        | inl e ↦
            let k : distance y d v ≡ None = g.touched.same_distance v l h ∙ (sym (g.row.each v l) ∙ cond-true (eqb (f v) 4294967295) None (Some (f v)) (eq-eqb (f v) 4294967295 e)) in
            inr (e, none_distance y g.after d v k)
        | inr e ↦
            let q : distance z d v ≡ Some (f v) = sym (g.row.each v l) ∙ cond-false (eqb (f v) 4294967295) None (Some (f v)) (ne_eqb (f v) 4294967295 e) in
            inl (omega (arith, bounded z g.before g.limited d v (f v) q), dist_distance y g.after d v (f v) (g.touched.same_distance v l h ∙ q))
      ]

  pub begun_none : Begun y d t t old old
  begun_none = record {
    some = λ v h. h;
    size = g.row.size ∙ sym g.nodes;
    others = λ v p h. refl;
    top = λ v p h n. absurd (both_ways (has t v) n h);
    found = λ v p h n. absurd (both_ways (has t v) n h);
    over = λ v e h n. absurd (both_ways (has t v) n h);
  }

  pub begun_more : (rest less over : NodeSet) (dist : List ℕ) (x c : ℕ) → has rest x ≡ true → Less x rest less → ((e : ℕ) → has over e ≡ (ltb 0 (y.cost x e) && not (has t e))) → Begun y d t rest old dist → LeastOver y x over dist c → Begun y d t less old (set dist x c)
  unfolding path_cost
  begun_more rest less over dist x c in_rest w q h o =
      let in_t = h.some x in_rest in
      let xn = g.touched.within x in_t in
      let here : get_or (set dist x c) x 0 ≡ c = get_or-set_same dist x c 0 (omega (arith, h.size)) in
      let there : (v : ℕ) → (v ≡ x → ⊥) → get_or (set dist x c) v 0 ≡ get_or dist v 0 = λ v e. get_or-set_other dist x v c 0 e in
      let left : (v : ℕ) → (v ≡ x → ⊥) → has less v ≡ false → has rest v ≡ false = λ v e n. sym (same_other rest less x w v e) ∙ n in
      let value : (e : ℕ) → has t e ≡ false → e < y.n → get_or dist e 0 ≡ f e = λ e n p. h.others e p n in
      record {
        some = λ v k. h.some v (left_in rest less x w v k);
        size = length-set dist x c ∙ h.size;
        others = λ v p n. there v (λ e. both_ways (has t x) (ap (has t) (sym e) ∙ n) in_t) ∙ h.others v p n;
        top = λ v p k n. elim (cases_eq v x) [ inl e ↦ omega (arith, ap (λ i. get_or (set dist x c) i 0) e, here, o.top) | inr e ↦ omega (arith, there v e, h.top v p k (left v e n)) ];
        found = λ v p k n l. elim (cases_eq v x) [
          | inl e ↦
              let is : get_or (set dist x c) v 0 ≡ c = ap (λ i. get_or (set dist x c) i 0) e ∙ here in
              subst (λ i. Found y d i (get_or (set dist x c) v 0)) (sym e) (subst (Found y d x) (sym is) (elim o.one [
                | inl i ↦ absurd (omega (arith, is))
                | inr i ↦
                    let parts = and_parts (ltb 0 (y.cost x i.0)) (not (has t i.0)) (sym (q i.0) ∙ i.1) in
                    let link = ltb-true 0 (y.cost x i.0) parts.0 in
                    let out = not-true (has t i.0) parts.1 in
                    let m = (g.after.within x i.0 link).1 in
                    elim (stays i.0 m out) [
                      | inl a ↦
                          let b = a.1.found in
                          record { nodes = i.0 ∷ b.nodes; path = (link, b.path); cost = omega (arith, b.cost, i.2, value i.0 out m) }
                      | inr a ↦ absurd (omega (arith, is, i.2, value i.0 out m, a.0))
                    ]
              ]))
          | inr e ↦ subst (Found y d v) (sym (there v e)) (h.found v p k (left v e n) (omega (arith, there v e)))
        ];
        over = λ v e k n l u. elim (cases_eq v x) [
          | inl i ↦
              let m = (g.after.within v e l).1 in
              let link : 0 < y.cost x e = subst (λ j. 0 < y.cost j e) i l in
              let within : has over e ≡ true = q e ∙ and_from (ltb 0 (y.cost x e)) (not (has t e)) (lt-ltb 0 (y.cost x e) link) (ap not u) in
              subst (λ j. get_or (set dist x c) j 0 ≤ y.cost j e + f e) (sym i) (omega (arith, here, o.least e within, value e u m))
          | inr i ↦ omega (arith, there v i, h.over v e k (left v i n) l u)
        ];
      }

  pub begun_all : (rest : NodeSet) (dist : List ℕ) → ((e : ℕ) → has rest e ≡ false) → Begun y d t rest old dist → Standing y d t dist
  unfolding path_cost
  begun_all rest dist none h =
      let here : d < y.n = omega (arith, g.aim, g.nodes) in
      let top : (v : ℕ) → v < y.n → get_or dist v 0 ≤ 4294967295 = λ v p. elim (cases_Bool (has t v)) [
        | inl u ↦ h.top v p u (none v)
        | inr u ↦ elim (stays v p u) [ inl x ↦ omega (arith, h.others v p u, x.0) | inr x ↦ omega (arith, h.others v p u, x.0) ]
      ] in
      let right : (v : ℕ) → v < y.n → has t v ≡ false → (ws : List ℕ) → IsPath y d v ws → get_or dist v 0 ≤ path_cost y v ws = λ v p u ws w. elim (stays v p u) [
        | inl x ↦ omega (arith, h.others v p u, x.1.least ws w)
        | inr x ↦ absurd (x.1 ws w)
      ] in
      record {
        within = λ v u. omega (arith, g.touched.within v u);
        size = h.size;
        aim = here;
        part = record {
          start = elim (stays d here g.touched.aim) [
            | inl x ↦ let m = x.1.least [] refl in omega (arith, h.others d here g.touched.aim)
            | inr x ↦ absurd (x.1 [] refl)
          ];
          top = top;
          found = λ v p q. elim (cases_Bool (has t v)) [
            | inl u ↦ h.found v p u (none v) q
            | inr u ↦ elim (stays v p u) [
              | inl x ↦ subst (Found y d v) (sym (h.others v p u)) x.1.found
              | inr x ↦ absurd (omega (arith, h.others v p u, x.0))
            ]
          ];
          right = right;
          links = λ u v o q.
              let w = g.after.within u v q in
              let b = g.after.symmetric u v in
              elim (cases_Bool (has t v)) [
                | inl a ↦ omega (arith, h.over v u a (none v) (omega arith) o, h.others u w.0 o)
                | inr a ↦ elim (stays u w.0 o) [
                  | inl x ↦ let m = right v w.1 a (u ∷ x.1.found.nodes) (omega arith, x.1.found.path) in omega (arith, m, x.1.found.cost, h.others u w.0 o)
                  | inr x ↦ omega (arith, h.others u w.0 o, x.0, top v w.1)
                ]
              ];
        };
      }
