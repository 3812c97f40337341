-- The next hop is the lowest-numbered neighbour by which a node is as near as it can be. Assumes nothing.
use Rattle.std.proofs.Common.{◌≡◌, ℕ, zero, suc, ◌+◌, ◌<◌, ◌≤◌, Bool, true, false, ◌&&◌, eqb, ◌≢◌, List, [], ◌∷◌, is_some, Some, None, Option, sym, refl, ap, ◌∙◌, subst, inl, inr, arith}
use Rattle.std.proofs.lemmas.Bool.{both_ways, eqb-true, eqb-false, eq-eqb, ne_eqb, and_parts, cases_eq, cases_Bool, and_from, cond-true, cond-false}
use Rattle.theory.specs.NextHop.{same, first_from, next_hop, AsNear, IsNextHop}
use Rattle.theory.specs.Distance.{IsPath, path_cost, over, distance}
use Rattle.theory.specs.Network.{Network, Lawful}
use Rattle.theory.proofs.Distances.{dist_tail, distance_dist, dist_distance, Dist}
use Rattle.theory.proofs.Paths.{some_inj, none_some, over_at, over_from}

-- the test at the neighbour e
abbrev pub fits : Network → ℕ → ℕ → ℕ → Bool
fits z d a e = is_some (distance z d a) && same (over (z.cost a e) (distance z d e)) (distance z d a)

pub same_eq : (f g : Option ℕ) → same f g ≡ true → f ≡ g
same_eq None None t = refl
same_eq None (Some e) t = absurd (both_ways false refl t)
same_eq (Some a) None t = absurd (both_ways false refl t)
same_eq (Some a) (Some e) t = ap Some (eqb-true a e t)

pub eq_same : (f g : Option ℕ) → f ≡ g → same f g ≡ true
eq_same None None t = refl
eq_same None (Some e) t = absurd (none_some e t)
eq_same (Some a) None t = absurd (none_some a (sym t))
eq_same (Some a) (Some e) t = eq-eqb a e (some_inj a e t)

pub some_of : (f : Option ℕ) → is_some f ≡ true → (c : ℕ) × (f ≡ Some c)
some_of None t = absurd (both_ways false refl t)
some_of (Some c) t = (c, refl)

pub of_some : (f : Option ℕ) (c : ℕ) → f ≡ Some c → is_some f ≡ true
of_some f c p = ap is_some p

fits_next : (z : Network) (d a e : ℕ) → fits z d a e ≡ true → AsNear z d a e
fits_next z d a e t =
    let h = and_parts (is_some (distance z d a)) (same (over (z.cost a e) (distance z d e)) (distance z d a)) t in
    let c = some_of (distance z d a) h.0 in
    let q = same_eq (over (z.cost a e) (distance z d e)) (distance z d a) h.1 in
    let o = over_from (z.cost a e) (distance z d e) c.0 (q ∙ c.1) in
    record { rest = o.rest; link = o.link; there = o.at; here = c.1 ∙ ap Some o.sum }

next_fits : (z : Network) (d a e : ℕ) → AsNear z d a e → fits z d a e ≡ true
next_fits z d a e x =
    and_from (is_some (distance z d a)) (same (over (z.cost a e) (distance z d e)) (distance z d a)) (of_some (distance z d a) (z.cost a e + x.rest) x.here)
    (eq_same (over (z.cost a e) (distance z d e)) (distance z d a) (ap (over (z.cost a e)) x.there ∙ (over_at (z.cost a e) x.rest x.link ∙ sym x.here)))

-- the first of k neighbours from e on that fits

pub record First (z : Network) (d a e x : ℕ) : Type 0 where
  pub near : AsNear z d a x
  pub lowest : (y : ℕ) → e ≤ y → AsNear z d a y → x ≤ y

first_from_lem : (k : ℕ) (z : Network) (d a e x : ℕ) → first_from z d a e k ≡ Some x → First z d a e x
unfolding first_from
first_from_lem zero z d a e x p = absurd (none_some x p)
first_from_lem (suc k) z d a e x p =
    elim (cases_Bool (fits z d a e)) [
      | inl t ↦
          let q : e ≡ x = some_inj e x (sym (cond-true (fits z d a e) (Some e) (first_from z d a (e + 1) k) t) ∙ p) in
          record { near = subst (λ v. AsNear z d a v) q (fits_next z d a e t); lowest = λ y h j. omega arith }
      | inr t ↦
          let i = first_from_lem k z d a (e + 1) x (sym (cond-false (fits z d a e) (Some e) (first_from z d a (e + 1) k) t) ∙ p) in
          record { near = i.near; lowest = λ y h j. elim (cases_eq e y) [ inl q ↦ absurd (both_ways (fits z d a e) t (next_fits z d a e (subst (λ v. AsNear z d a v) (sym q) j))) | inr q ↦ i.lowest y (omega arith) j ] }
    ]

first_some : (k : ℕ) (z : Network) (d a e x : ℕ) → e ≤ x → x < e + k → AsNear z d a x → (y : ℕ) × (first_from z d a e k ≡ Some y)
unfolding first_from
first_some zero z d a e x h j n = absurd (omega arith)
first_some (suc k) z d a e x h j n =
    elim (cases_Bool (fits z d a e)) [
      | inl t ↦ (e, cond-true (fits z d a e) (Some e) (first_from z d a (e + 1) k) t)
      | inr t ↦
          let l : e ≢ x = λ q. both_ways (fits z d a e) t (next_fits z d a e (subst (λ v. AsNear z d a v) (sym q) n)) in
          let i = first_some k z d a (e + 1) x (omega arith) (omega arith) n in
          (i.0, cond-false (fits z d a e) (Some e) (first_from z d a (e + 1) k) t ∙ i.1)
    ]

-- the function in the words of the relation
pub next_hop_is : (z : Network) (d a e : ℕ) → next_hop z d a ≡ Some e → IsNextHop z d a e
next_hop_is z d a e p = elim (cases_Bool (eqb a d)) [
  | inl t ↦ absurd (none_some e (sym (cond-true (eqb a d) None (first_from z d a 0 z.n) t) ∙ p))
  | inr t ↦
      let i = first_from_lem z.n z d a 0 e (sym (cond-false (eqb a d) None (first_from z d a 0 z.n) t) ∙ p) in
      record { elsewhere = eqb-false a d t; near = i.near; lowest = λ y j. i.lowest y (omega arith) j }
]

-- where some neighbour fits, there is a next hop
next_hop_some : (z : Network) → Lawful z → (d a x : ℕ) → (a ≡ d → ⊥) → AsNear z d a x → (y : ℕ) × (next_hop z d a ≡ Some y)
next_hop_some z g d a x h n =
    let i = first_some z.n z d a 0 x (omega arith) (omega (arith, (g.within a x n.link).1)) n in
    (i.0, cond-false (eqb a d) None (first_from z d a 0 z.n) (ne_eqb a d h) ∙ i.1)

pub is_next_hop : (z : Network) → Lawful z → (d a e : ℕ) → IsNextHop z d a e → next_hop z d a ≡ Some e
is_next_hop z g d a e s =
    let i = next_hop_some z g d a e s.elsewhere s.near in
    let t = next_hop_is z d a i.0 i.1 in
    let q : i.0 ≡ e = omega (arith, t.lowest e s.near, s.lowest i.0 t.near) in
    i.1 ∙ ap Some q

-- there is a next hop exactly where there is a path and it is not at its end
pub next_hop_where : (z : Network) → Lawful z → (d a c : ℕ) → (a ≡ d → ⊥) → distance z d a ≡ Some c → (e : ℕ) × (next_hop z d a ≡ Some e)
unfolding path_cost
next_hop_where z g d a c h p = let q = dist_distance z g d a c p in go q q.found.nodes q.found.path q.found.cost
  where
    go : Dist z d a c → (ws : List ℕ) → IsPath z d a ws → path_cost z a ws ≡ c → (e : ℕ) × (next_hop z d a ≡ Some e)
    go q [] w e = absurd (h w)
    go q (y ∷ ys) w e = next_hop_some z g d a y h (record { rest = path_cost z y ys; link = w.0; there = distance_dist z g d y (path_cost z y ys) (dist_tail z d a y ys c w e q.least); here = p ∙ ap Some (sym e) })

pub next_hop_here : (z : Network) (d : ℕ) → next_hop z d d ≡ None
next_hop_here z d = cond-true (eqb d d) None (first_from z d d 0 z.n) (eq-eqb d d refl)

pub next_hop_none : (z : Network) (d a : ℕ) → distance z d a ≡ None → next_hop z d a ≡ None
next_hop_none z d a p = go (next_hop z d a) refl
  where
    go : (h : Option ℕ) → next_hop z d a ≡ h → next_hop z d a ≡ None
    go None q = q
    go (Some e) q = absurd (none_some (z.cost a e + (next_hop_is z d a e q).near.rest) (sym p ∙ (next_hop_is z d a e q).near.here))
