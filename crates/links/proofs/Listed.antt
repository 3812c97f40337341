-- In a rising list no link hides another.
use Rattle.std.proofs.Common.{◌≡◌, ℕ, zero, suc, ◌<◌, true, false, ◌&&◌, eqb, ltb, ◌⊎◌, List, [], ◌∷◌, length, get_or, refl, ◌∙◌, inl, inr, arith}
use Rattle.std.proofs.lemmas.Bool.{ltb-true, eqb-true, eq-eqb, and_parts, cases_Bool, and_from, or_cases, or_left}
use Rattle.types.specs.Link.{ends_of}
use Rattle.links.specs.Links.{precedes, start, rising_from, rising, Listed}
use Rattle.links.proofs.Lawful.{rising_parts, cost_here, cost_there}
use Rattle.theory.specs.Network.{joins}
use Rattle.theory.proofs.Joins.{joins_ends}
use Rattle.types.specs.declared.link.Link.{Link}

-- p comes before l, by numbers
abbrev Before : Link → Link → Type 0
Before p l = (p.a < l.a) ⊎ ((p.a ≡ l.a) × (p.b < l.b))

before : (p l : Link) → precedes p l ≡ true → Before p l
before p l t = elim (or_cases (ltb p.a l.a) (eqb p.a l.a && ltb p.b l.b) t) [
  | inl h ↦ inl (ltb-true p.a l.a h)
  | inr h ↦ let k = and_parts (eqb p.a l.a) (ltb p.b l.b) h in inr (eqb-true p.a l.a k.0, ltb-true p.b l.b k.1)
]

before_on : (p q l : Link) → Before p q → Before q l → Before p l
before_on p q l (inl h) (inl k) = inl (omega arith)
before_on p q l (inl h) (inr k) = inl (omega (arith, k.0))
before_on p q l (inr h) (inl k) = inl (omega (arith, h.0))
before_on p q l (inr h) (inr k) = inr (h.0 ∙ k.0, omega (arith, h.1, k.1))

-- a link further down the list
record Later (p l : Link) : Type 0 where
  order : l.a < l.b
  after : Before p l

later : (n : ℕ) (p : Link) (ls : List Link) → rising_from n p ls ≡ true → (i : ℕ) → i < length ls →
    Later p (get_or ls i start)
later n p [] t i h = absurd (omega arith)
later n p (l ∷ ls) t zero h =
    let f = (rising_parts n p l ls t).0 in
    record { order = f.order; after = before p l f.after }
later n p (l ∷ ls) t (suc i) h =
    let s = rising_parts n p l ls t in
    let k = later n l ls s.1 i (omega arith) in
    record { order = k.order; after = before_on p l (get_or ls i start) (before p l s.0.after) k.after }

apart : (p l : Link) → p.a < p.b → Later p l → joins (ends_of p) l.a l.b ≡ true → ⊥
apart p l h k t = elim (joins_ends (ends_of p) l.a l.b t) [
  | inl e ↦ elim k.after [ inl q ↦ omega (arith, e.0) | inr q ↦ omega (arith, e.1, q.1) ]
  | inr e ↦ omega (arith, e.0, e.1, k.order)
]

own_ends : (l : Link) → joins (ends_of l) l.a l.b ≡ true
own_ends l =
    or_left (eqb l.a l.a && eqb l.b l.b) (eqb l.a l.b && eqb l.b l.a)
    (and_from (eqb l.a l.a) (eqb l.b l.b) (eq-eqb l.a l.a refl) (eq-eqb l.b l.b refl))

listed_from : (n : ℕ) (p : Link) (ls : List Link) → rising_from n p ls ≡ true → Listed ls
listed_from n p [] t i h = absurd (omega arith)
listed_from n p (l ∷ ls) t zero h = ((rising_parts n p l ls t).0.some, cost_here l ls l.a l.b (own_ends l))
listed_from n p (l ∷ ls) t (suc i) h =
    let s = rising_parts n p l ls t in
    let x = get_or ls i start in
    let j : joins (ends_of l) x.a x.b ≡ false = elim (cases_Bool (joins (ends_of l) x.a x.b)) [
      | inl u ↦ absurd (apart l x s.0.order (later n l ls s.1 i (omega arith)) u)
      | inr u ↦ u
    ] in
    let r = listed_from n l ls s.1 i (omega arith) in
    (r.0, cost_there l ls x.a x.b j ∙ r.1)

pub listed : (n : ℕ) (ls : List Link) → rising n ls ≡ true → Listed ls
listed n ls t = listed_from n start ls t
