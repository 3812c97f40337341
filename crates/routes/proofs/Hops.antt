-- What distances in memory say of the next hops.
use Rattle.std.proofs.Common.{◌≡◌, ℕ, ◌+◌, ◌-◌, ◌<◌, ◌≤◌, true, eqb, ltb, ◌⊎◌, List, get_or, Some, None, Option, sym, refl, ap, ◌∙◌, inl, inr, arith}
use Rattle.std.proofs.lemmas.Bool.{ltb-true, lt-ltb, ne_eqb, cases_lt, cases_eq, cases_Bool, cond-true, cond-false}
use Rattle.types.specs.NodeSets.{has}
use Rattle.types.specs.declared.node_set.NodeSet.{NodeSet}
use Rattle.routes.specs.Distances.{decoded, Filled}
use Rattle.theory.specs.NextHop.{next_hop, AsNear}
use Rattle.theory.specs.Distance.{distance}
use Rattle.theory.specs.Network.{Network, Lawful, Limited}
use Rattle.theory.proofs.DistanceLaws.{distance_self}
use Rattle.theory.proofs.NextHops.{next_hop_is, is_next_hop}
use Rattle.theory.proofs.HopPaths.{bounded}
use Rattle.theory.proofs.Paths.{some_inj, none_some}

-- by its link to e, at that price, a node at the distance here is as near as it can be
pub record Near (price : ℕ) (dist : List ℕ) (here e : ℕ) : Type 0 where
  pub less : get_or dist e 0 < here
  pub cost : here - get_or dist e 0 ≡ price

decoded_some : (x c : ℕ) → decoded x ≡ Some c → x ≡ c
decoded_some x c p = elim (cases_Bool (eqb x 4294967295)) [
  | inl t ↦ absurd (none_some c (sym (cond-true (eqb x 4294967295) None (Some x) t) ∙ p))
  | inr t ↦ some_inj x c (sym (cond-false (eqb x 4294967295) None (Some x) t) ∙ p)
]

module _ (z : Network) (g : Lawful z) (s : Limited z) (d : ℕ) (l : List ℕ) (f : Filled z d l) where
  -- an entry stands for no path, or is a distance, and so far less
  filled_cases : (a : ℕ) → a < z.n → (get_or l a 0 ≡ 4294967295) ⊎ ((distance z d a ≡ Some (get_or l a 0)) × (get_or l a 0 ≤ 4128705))
  filled_cases a p = elim (cases_eq (get_or l a 0) 4294967295) [
    | inl e ↦ inl e
    | inr h ↦
        let e : distance z d a ≡ Some (get_or l a 0) = sym (f.each a p) ∙ cond-false (eqb (get_or l a 0) 4294967295) None (Some (get_or l a 0)) (ne_eqb (get_or l a 0) 4294967295 h) in
        inr (e, bounded z g s d a (get_or l a 0) e)
  ]

  filled_some : (a c : ℕ) → a < z.n → distance z d a ≡ Some c → get_or l a 0 ≡ c
  filled_some a c p e = decoded_some (get_or l a 0) c (f.each a p ∙ e)

  module _ (a : ℕ) (p : a < z.n) where
    -- the code's test is the definition's
    near_next : (e : ℕ) → e < z.n → Near (z.cost a e) l (get_or l a 0) e → AsNear z d a e
    near_next e q n =
        elim (filled_cases a p) [
          | inl x ↦ elim (filled_cases e q) [ inl y ↦ absurd (omega (arith, n.less)) | inr y ↦ absurd (omega (arith, n.cost, y.1, s.light a e)) ]
          | inr x ↦ elim (filled_cases e q) [
            | inl y ↦ absurd (omega (arith, n.less, x.1))
            | inr y ↦ record { rest = get_or l e 0; link = omega (arith, n.less, n.cost); there = y.0; here = x.0 ∙ ap Some (omega (arith, n.less, n.cost)) }
          ]
        ]

    next_near : (e : ℕ) → AsNear z d a e → Near (z.cost a e) l (get_or l a 0) e
    next_near e x =
        let q = (g.within a e x.link).1 in
        let i = filled_some e x.rest q x.there in
        let j = filled_some a (z.cost a e + x.rest) p x.here in
        record { less = omega (arith, x.link); cost = omega arith }

    module _ (o : NodeSet) (h : (b : ℕ) → has o b ≡ ltb 0 (z.cost a b)) where
      -- the neighbour y passes the test
      abbrev Passes : ℕ → Type 0
      Passes y = Near (z.cost a y) l (get_or l a 0) y

      is_near : (y : ℕ) → AsNear z d a y → (has o y ≡ true) × Passes y
      is_near y x = (h y ∙ lt-ltb 0 (z.cost a y) x.link, next_near y x)

      -- where none passes there is no next hop
      pub hop_none : ((y : ℕ) → has o y ≡ true → Passes y → ⊥) → None ≡ next_hop z d a
      hop_none n = go (next_hop z d a) refl
        where
          go : (x : Option ℕ) → next_hop z d a ≡ x → None ≡ next_hop z d a
          go None e = sym e
          go (Some y) e = let i = is_near y (next_hop_is z d a y e).near in absurd (n y i.0 i.1)

      -- the lowest that passes is the next hop
      pub hop_some : (e : ℕ) → has o e ≡ true → Passes e → ((y : ℕ) → y < e → has o y ≡ true → Passes y → ⊥) → Some e ≡ next_hop z d a
      hop_some e m n first =
          let q = (g.within a e (ltb-true 0 (z.cost a e) (sym (h e) ∙ m))).1 in
          sym (is_next_hop z g d a e (record {
            elsewhere = λ x. omega (arith, n.less, filled_some a 0 p (ap (λ y. distance z d y) x ∙ distance_self z g d));
            near = near_next e q n;
            lowest = λ y x.
                let i = is_near y x in
                elim (cases_lt y e) [ inl k ↦ absurd (first y k i.0 i.1) | inr k ↦ k ];
          }))
