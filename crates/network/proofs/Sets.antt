-- One place of a list set anew, or added, as a function of the place.
use Rattle.std.proofs.Common.{◌≡◌, ℕ, ◌<◌, ◌≤◌, cond, eqb, ◌⊎◌, List, [], ◌∷◌, ◌++◌, map, length, get_or, set, sym, refl, ap, ◌∙◌, subst, inl, inr, arith, length-set}
use Rattle.std.proofs.lemmas.Bool.{cases_lt, cond_both, eqb-false, eqb-true}
use Rattle.std.proofs.lemmas.Grind.{get_or-set_at}
use Rattle.std.proofs.lemmas.List.{get_or-map, get_or-set_other, get_or_append_left, get_or_past, get_or_push, length-map, length_push, map-set, map_push}

module _ {X Y : Type 0} (f : X → Y) (xs : List X) (e : Y) where
  -- what is read off a place is what is read off its item
  pub read_at : (i : ℕ) (x : X) → i < length xs → x ≡ get_or xs i x → get_or (map f xs) i e ≡ f x
  read_at i x l h = get_or-map f xs i x e l ∙ ap f (sym h)

  pub set_at : (i : ℕ) (x : X) (y : Y) → i < length xs → f x ≡ y → (k : ℕ) →
      get_or (map f (set xs i x)) k e ≡ cond (eqb k i) y (get_or (map f xs) k e)
  set_at i x y l h k = ap (λ ys. get_or ys k e) (map-set f xs i x) ∙
      cond_both (eqb k i) y (get_or (map f xs) k e) (λ z. get_or (set (map f xs) i (f x)) k e ≡ z)
      (λ t. get_or-set_at (map f xs) i k (f x) e (eqb-true k i t) (omega (arith, length-map xs f)) ∙ h)
      (λ t. get_or-set_other (map f xs) i k (f x) e (eqb-false k i t))

  pub push_at : (x : X) (y : Y) → f x ≡ y → (k : ℕ) →
      get_or (map f (xs ++ x ∷ [])) k e ≡ cond (eqb k (length xs)) y (get_or (map f xs) k e)
  push_at x y h k = ap (λ ys. get_or ys k e) (map_push f xs x) ∙
      cond_both (eqb k (length xs)) y (get_or (map f xs) k e) (λ z. get_or (map f xs ++ f x ∷ []) k e ≡ z)
      (λ t. get_or_push (map f xs) (f x) e k (length-map xs f ∙ sym (eqb-true k (length xs) t)) ∙ h)
      (λ t. other (cases_lt k (length xs)) (eqb-false k (length xs) t))
    where
      other : (k < length xs) ⊎ (length xs ≤ k) → (k ≡ length xs → ⊥) →
          get_or (map f xs ++ f x ∷ []) k e ≡ get_or (map f xs) k e
      other (inl l) w = get_or_append_left (map f xs) (f x ∷ []) e k (omega (arith, length-map xs f))
      other (inr l) w =
          get_or_past (map f xs ++ f x ∷ []) k e (omega (arith, length_push (map f xs) (f x), length-map xs f)) ∙
          sym (get_or_past (map f xs) k e (omega (arith, length-map xs f)))

  -- what holds of each place still does
  pub set_all : (P : ℕ → Y → Type 0) (i : ℕ) (x : X) → i < length xs → P i (f x) →
      ((k : ℕ) → k < length xs → P k (get_or (map f xs) k e)) →
      (k : ℕ) → k < length (set xs i x) → P k (get_or (map f (set xs i x)) k e)
  set_all P i x l p h k q =
      subst (P k) (sym (set_at i x (f x) l refl k))
      (cond_both (eqb k i) (f x) (get_or (map f xs) k e) (P k) (λ t. subst (λ j. P j (f x)) (sym (eqb-true k i t)) p)
      (λ t. h k (omega (arith, length-set xs i x))))

  pub push_all : (P : ℕ → Y → Type 0) (x : X) → P (length xs) (f x) →
      ((k : ℕ) → k < length xs → P k (get_or (map f xs) k e)) →
      (k : ℕ) → k < length (xs ++ x ∷ []) → P k (get_or (map f (xs ++ x ∷ [])) k e)
  push_all P x p h k q =
      subst (P k) (sym (push_at x (f x) refl k))
      (cond_both (eqb k (length xs)) (f x) (get_or (map f xs) k e) (P k)
      (λ t. subst (λ j. P j (f x)) (sym (eqb-true k (length xs) t)) p)
      (λ t. let n = eqb-false k (length xs) t in h k (omega (arith, length_push xs x, n))))
