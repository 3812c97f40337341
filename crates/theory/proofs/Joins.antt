-- A link is the same from both ends. Assumes nothing.
use Rattle.std.proofs.Common.{◌≡◌, ℕ, Bool, true, false, ◌&&◌, ◌||◌, eqb, ◌⊎◌, sym, refl, ◌∙◌, ap₂, inl, inr}
use Rattle.std.proofs.lemmas.Bool.{eqb-true, and_parts, or_cases}
use Rattle.theory.specs.Network.{joins, LinkId}

and_comm : (a b : Bool) → (a && b) ≡ (b && a)
and_comm true true = refl
and_comm true false = refl
and_comm false true = refl
and_comm false false = refl

pub or_comm : (a b : Bool) → (a || b) ≡ (b || a)
or_comm true true = refl
or_comm true false = refl
or_comm false true = refl
or_comm false false = refl

pub joins_symmetric : (r : LinkId) (x y : ℕ) → joins r x y ≡ joins r y x
joins_symmetric r x y =
    or_comm (eqb x r.a && eqb y r.b) (eqb x r.b && eqb y r.a) ∙
    ap₂ (λ p q. p || q) (and_comm (eqb x r.b) (eqb y r.a)) (and_comm (eqb x r.a) (eqb y r.b))

-- the two directions
pub joins_ends : (r : LinkId) (x y : ℕ) → joins r x y ≡ true → ((x ≡ r.a) × (y ≡ r.b)) ⊎ ((x ≡ r.b) × (y ≡ r.a))
joins_ends r x y t =
    elim (or_cases (eqb x r.a && eqb y r.b) (eqb x r.b && eqb y r.a) t) [
      | inl h ↦ let k = and_parts (eqb x r.a) (eqb y r.b) h in inl (eqb-true x r.a k.0, eqb-true y r.b k.1)
      | inr h ↦ let k = and_parts (eqb x r.b) (eqb y r.a) h in inr (eqb-true x r.b k.0, eqb-true y r.a k.1)
    ]

-- two that it joins are the same two, in either order
pub same_link_lem : (r : LinkId) (s f x y : ℕ) → joins r s f ≡ true → joins r x y ≡ true → ((x ≡ s) × (y ≡ f)) ⊎ ((x ≡ f) × (y ≡ s))
same_link_lem r s f x y p q = elim (joins_ends r s f p) [
  | inl h ↦ elim (joins_ends r x y q) [ inl k ↦ inl (k.0 ∙ sym h.0, k.1 ∙ sym h.1) | inr k ↦ inr (k.0 ∙ sym h.1, k.1 ∙ sym h.0) ]
  | inr h ↦ elim (joins_ends r x y q) [ inl k ↦ inr (k.0 ∙ sym h.1, k.1 ∙ sym h.0) | inr k ↦ inl (k.0 ∙ sym h.0, k.1 ∙ sym h.1) ]
]
