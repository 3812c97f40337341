-- What distance_by k finds is the cost of a path, and no path of at most k links is cheaper. Assumes nothing.
use Rattle.std.proofs.Common.{◌≡◌, ℕ, zero, suc, ◌+◌, ◌<◌, ◌≤◌, false, eqb, leb, ◌⊎◌, List, [], ◌∷◌, length, Some, None, Option, sym, refl, ap, ◌∙◌, inl, inr, arith}
use Rattle.std.proofs.lemmas.Bool.{leb-true, leb-false, eqb-true, eqb-false, eq-eqb, ne_eqb, cases_eq, cases_Bool, cond-true, cond-false, cond_both}
use Rattle.theory.specs.Distance.{IsPath, path_cost, lesser, plus, over, least_over, distance_by, Found}
use Rattle.theory.specs.Network.{Network, Lawful}

-- distances

pub some_inj : (a b : ℕ) → Some a ≡ Some b → a ≡ b
some_inj a b p = cc

pub none_some : (c : ℕ) → None ≡ Some c → ⊥
none_some c p = let z : ◌≡◌ {A = ℕ} 0 1 = cc in omega arith

pub nil_cons : (x : ℕ) (xs : List ℕ) → [] ≡ (x ∷ xs) → ⊥
nil_cons x xs p = let z : ◌≡◌ {A = ℕ} 0 1 = cc in omega arith

-- a distance of at most m
abbrev pub Within : Option ℕ → ℕ → Type 0
Within f m = (c : ℕ) × (f ≡ Some c) × (c ≤ m)

pub within_at : (f : Option ℕ) (c : ℕ) → f ≡ Some c → Within f c
within_at f c p = (c, p, omega arith)

pub within_more : (f : Option ℕ) (m k : ℕ) → m ≤ k → Within f m → Within f k
within_more f m k h w = (w.0, w.1, omega arith)

lesser_left : (f g : Option ℕ) (m : ℕ) → Within f m → Within (lesser f g) m
lesser_left None g m w = absurd (none_some w.0 w.1)
lesser_left (Some a) None m w = w
lesser_left (Some a) (Some e) m w =
    let q : a ≡ w.0 = some_inj a w.0 w.1 in
    cond_both (leb a e) (Some a) (Some e) (λ x. Within x m) (λ t. w) (λ t. (e, refl, omega (arith, leb-false a e t)))

lesser_right : (f g : Option ℕ) (m : ℕ) → Within g m → Within (lesser f g) m
lesser_right None g m w = w
lesser_right (Some a) None m w = absurd (none_some w.0 w.1)
lesser_right (Some a) (Some e) m w =
    let q : e ≡ w.0 = some_inj e w.0 w.1 in
    cond_both (leb a e) (Some a) (Some e) (λ x. Within x m) (λ t. (a, refl, omega (arith, leb-true a e t))) (λ t. w)

lesser_from : (f g : Option ℕ) (c : ℕ) → lesser f g ≡ Some c → (f ≡ Some c) ⊎ (g ≡ Some c)
lesser_from None g c p = inr p
lesser_from (Some a) None c p = inl p
lesser_from (Some a) (Some e) c p =
    cond_both (leb a e) (Some a) (Some e) (λ x. x ≡ Some c → (Some a ≡ Some c) ⊎ (Some e ≡ Some c)) (λ t q. inl q) (λ t q. inr q) p

pub over_at : (k b : ℕ) → 0 < k → over k (Some b) ≡ Some (k + b)
over_at k b h = cond-false (eqb k 0) None (Some (k + b)) (ne_eqb k 0 (λ e. omega arith))

pub record Over (k : ℕ) (f : Option ℕ) (c : ℕ) : Type 0 where
  pub rest : ℕ
  pub link : 0 < k
  pub at : f ≡ Some rest
  pub sum : c ≡ k + rest

pub over_from : (k : ℕ) (f : Option ℕ) (c : ℕ) → over k f ≡ Some c → Over k f c
over_from k f c p = elim (cases_Bool (eqb k 0)) [ inl t ↦ absurd (none_some c (sym (cond-true (eqb k 0) None (plus k f) t) ∙ p)) | inr t ↦ go f (sym (cond-false (eqb k 0) None (plus k f) t) ∙ p) t ]
  where
    go : (g : Option ℕ) → plus k g ≡ Some c → eqb k 0 ≡ false → Over k g c
    go None q t = absurd (none_some c q)
    go (Some b) q t = record { rest = b; link = omega (arith, eqb-false k 0 t); at = refl; sum = sym (some_inj (k + b) c q) }

-- the best neighbour

pub record Best (z : Network) (f : ℕ → Option ℕ) (a k c : ℕ) : Type 0 where
  pub near : ℕ
  pub below : near < k
  pub over : Over (z.cost a near) (f near) c

best_from : (z : Network) (f : ℕ → Option ℕ) (a k c : ℕ) → least_over z f a k ≡ Some c → Best z f a k c
unfolding least_over
best_from z f a zero c p = absurd (none_some c p)
best_from z f a (suc k) c p =
    let more : Best z f a k c → Best z f a (suc k) c = λ b. record { near = b.near; below = omega arith; over = b.over } in
    elim (lesser_from (least_over z f a k) (over (z.cost a k) (f k)) c p) [ inl q ↦ more (best_from z f a k c q) | inr q ↦ record { near = k; below = omega arith; over = over_from (z.cost a k) (f k) c q } ]

best_within : (z : Network) (f : ℕ → Option ℕ) (a k e b : ℕ) → e < k → 0 < z.cost a e → f e ≡ Some b → Within (least_over z f a k) (z.cost a e + b)
unfolding least_over
best_within z f a zero e b h r p = absurd (omega arith)
best_within z f a (suc k) e b h r p =
    elim (cases_eq e k) [
      | inl q ↦ lesser_right (least_over z f a k) (over (z.cost a k) (f k)) (z.cost a e + b) (rw (← q) ((z.cost a e + b), ap (over (z.cost a e)) p ∙ over_at (z.cost a e) b r, omega arith))
      | inr q ↦ lesser_left (least_over z f a k) (over (z.cost a k) (f k)) (z.cost a e + b) (best_within z f a k e b (omega arith) r p)
    ]

-- paths

pub sound : (k : ℕ) (z : Network) (d a c : ℕ) → distance_by k z d a ≡ Some c → Found z d a c
unfolding distance_by path_cost
sound zero z d a c p = elim (cases_Bool (eqb a d)) [ inl t ↦ record { nodes = []; path = eqb-true a d t; cost = some_inj 0 c (sym (cond-true (eqb a d) (Some 0) None t) ∙ p) } | inr t ↦ absurd (none_some c (sym (cond-false (eqb a d) (Some 0) None t) ∙ p)) ]
sound (suc k) z d a c p =
    let on : (b : Best z (λ e. distance_by k z d e) a z.n c) → Found z d b.near b.over.rest → Found z d a c =
    λ b w. record { nodes = b.near ∷ w.nodes; path = (b.over.link, w.path); cost = omega (arith, b.over.sum, w.cost) } in
    elim (lesser_from (distance_by k z d a) (least_over z (λ e. distance_by k z d e) a z.n) c p) [
      | inl q ↦ sound k z d a c q
      | inr q ↦
          let b = best_from z (λ e. distance_by k z d e) a z.n c q in on b (sound k z d b.near b.over.rest b.over.at)
    ]

-- one link more
pub one_more : (k : ℕ) (z : Network) → Lawful z → (d a e c : ℕ) → 0 < z.cost a e → distance_by k z d e ≡ Some c → Within (distance_by (suc k) z d a) (z.cost a e + c)
unfolding distance_by
one_more k z g d a e c r p =
    lesser_right (distance_by k z d a) (least_over z (λ x. distance_by k z d x) a z.n) (z.cost a e + c)
    (best_within z (λ x. distance_by k z d x) a z.n e c (g.within a e r).1 r p)

pub complete : (k : ℕ) (z : Network) → Lawful z → (d a : ℕ) (ws : List ℕ) → IsPath z d a ws → length ws ≤ k → Within (distance_by k z d a) (path_cost z a ws)
unfolding distance_by path_cost
complete zero z g d a [] w h = (0, cond-true (eqb a d) (Some 0) None (eq-eqb a d w), omega arith)
complete zero z g d a (y ∷ ys) w h = absurd (omega arith)
complete (suc k) z g d a [] w h = lesser_left (distance_by k z d a) (least_over z (λ e. distance_by k z d e) a z.n) 0 (complete k z g d a [] w (omega arith))
complete (suc k) z g d a (y ∷ ys) w h =
    let i = complete k z g d y ys w.1 (omega arith) in
    within_more (distance_by (suc k) z d a) (z.cost a y + i.0) (z.cost a y + path_cost z y ys) (omega (arith, i.2)) (one_more k z g d a y i.0 w.0 i.1)

-- each link costs at least 1
pub short : (z : Network) (d a : ℕ) (ws : List ℕ) → IsPath z d a ws → length ws ≤ path_cost z a ws
unfolding path_cost
short z d a [] w = omega arith
short z d a (y ∷ ys) w = let h = short z d y ys w.1 in omega (arith, w.0)
