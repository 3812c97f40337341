-- How many hops a packet still takes at most, and how many repairs are put on it, whoever switches meanwhile.
use Rattle.std.proofs.Common.{◌≡◌, ℕ, suc, ◌+◌, ◌*◌, ◌<◌, ◌≤◌, Bool, true, false, not, ◌&&◌, List, [], ◌∷◌, length, is_some, Some, ap, inl, inr, mul-le-mul_right, arith}
use Rattle.std.proofs.lemmas.Bool.{both_ways, not-true, and_parts, cases_Bool, and_from, and_right, not_from_true, not_from_false}
use Rattle.protocol.specs.Delivery.{Reachable, enough_hops}
use Rattle.protocol.specs.Failed.{Done}
use Rattle.theory.specs.NextHop.{uses}
use Rattle.theory.specs.Distance.{distance}
use Rattle.theory.specs.Network.{joins, without, Network, LinkId}
use Rattle.theory.proofs.Distances.{count, count_most, count_le, count_lt}
use Rattle.theory.proofs.HopPaths.{hops, hops_most}
use Rattle.types.specs.declared.segment.Segment.{Segment}
use Rattle.types.specs.declared.segment.Segment.TheVariants.{Node, Link}

-- who has switched may be more
abbrev pub Grows : Done → Done → Type 0
Grows f g = (d u : ℕ) → f d u ≡ true → g d u ≡ true

abbrev waiting : Network → LinkId → Done → ℕ → ℕ → Bool
waiting z r f aim u = uses z r aim u && not (f aim u)

-- twice n for each node whose path to the aim uses the link and that has not switched
unfoldable pub due : Network → LinkId → Done → ℕ → ℕ
due z r f aim = count z.n (λ u. uses z r aim u && not (f aim u)) * (2 * z.n)

-- K hops and R repairs are enough to come from u to the aim and have base hops and later repairs left:
-- by a path that does not use the link; by new next hops; or by old ones, up to the end of the failed link
pub data Fits (z : Network) (r : LinkId) (f : Done) (aim base later K R u : ℕ) : Type 0 where
  is_clear : uses z r aim u ≡ false → hops z aim u + base ≤ K → later ≤ R → Fits z r f aim base later K R u
  is_behind : uses z r aim u ≡ true → f aim u ≡ true → due z r f aim + hops (without r z) aim u + z.n + (2 * z.n + base) ≤ K → suc later ≤ R → Fits z r f aim base later K R u
  is_ahead : uses z r aim u ≡ true → f aim u ≡ false → due z r f aim + hops z aim u + (2 * z.n + base) ≤ K → suc later ≤ R → Fits z r f aim base later K R u

pub fits_base : {z : Network} {r : LinkId} {f : Done} {aim base later K R u : ℕ} → Fits z r f aim base later K R u → (base ≤ K) × (later ≤ R)
fits_base (is_clear t le l) = omega arith
fits_base (is_behind t y le l) = omega arith
fits_base (is_ahead t y le l) = omega arith

module _ (z : Network) (r : LinkId) where
  pub fits_at : (f : Done) (aim base later K R u : ℕ) → suc later ≤ R → hops z aim u + base ≤ K → due z r f aim + hops (without r z) aim u + z.n + (2 * z.n + base) ≤ K →
      due z r f aim + hops z aim u + (2 * z.n + base) ≤ K → Fits z r f aim base later K R u
  fits_at f aim base later K R u l a b c =
      elim (cases_Bool (uses z r aim u)) [
        | inr t ↦ is_clear t a (omega arith)
        | inl t ↦ elim (cases_Bool (f aim u)) [ inl y ↦ is_behind t y b l | inr y ↦ is_ahead t y c l ]
      ]

  due_most : (f : Done) (aim : ℕ) → due z r f aim ≤ z.n * (2 * z.n)
  unfolding due
  due_most f aim = mul-le-mul_right (2 * z.n) (count_most z.n (waiting z r f aim))

  still_waits : (f g : Done) → Grows f g → (aim u : ℕ) → waiting z r g aim u ≡ true → waiting z r f aim u ≡ true
  still_waits f g more aim u h =
      let k = and_parts (uses z r aim u) (not (g aim u)) h in
      elim (cases_Bool (f aim u)) [
        | inl t ↦ absurd (both_ways (g aim u) (not-true (g aim u) k.1) (more aim u t))
        | inr t ↦ and_from (uses z r aim u) (not (f aim u)) k.0 (not_from_false (f aim u) t)
      ]

  due_more : (f g : Done) → Grows f g → (aim : ℕ) → due z r g aim ≤ due z r f aim
  unfolding due
  due_more f g more aim = mul-le-mul_right (2 * z.n) (count_le z.n (waiting z r g aim) (waiting z r f aim) (still_waits f g more aim))

  due_less : (f g : Done) → Grows f g → (aim v : ℕ) → v < z.n → uses z r aim v ≡ true → f aim v ≡ false → g aim v ≡ true → due z r g aim + 2 * z.n ≤ due z r f aim
  unfolding due
  due_less f g more aim v b t n y =
      let lt =
      count_lt z.n (waiting z r g aim) (waiting z r f aim) (still_waits f g more aim) v b (and_right (uses z r aim v) (not (g aim v)) (not_from_true (g aim v) y))
      (and_from (uses z r aim v) (not (f aim v)) t (not_from_false (f aim v) n)) in
      let m = mul-le-mul_right (2 * z.n) lt in
      omega arith

  -- when more have switched, no more is needed
  fits_more : (f g : Done) → Grows f g → (aim base later K R u : ℕ) → u < z.n → Fits z r f aim base later K R u → Fits z r g aim base later K R u
  fits_more f g more aim base later K R u b (is_clear t le l) = is_clear t le l
  fits_more f g more aim base later K R u b (is_behind t y le l) = is_behind t (more aim u y) (omega (arith, due_more f g more aim)) l
  fits_more f g more aim base later K R u b (is_ahead t y le l) = elim (cases_Bool (g aim u)) [
    | inl w ↦ is_behind t w (omega (arith, due_less f g more aim u b t y w, hops_most (without r z) aim u)) l
    | inr w ↦ is_ahead t w (omega (arith, due_more f g more aim)) l
  ]

  fits_any : (f : Done) (aim base later K R u : ℕ) → suc later ≤ R → 2 * z.n * z.n + 4 * z.n + base ≤ K → Fits z r f aim base later K R u
  fits_any f aim base later K R u l le =
      let a = hops_most z aim u in
      let b = hops_most (without r z) aim u in
      let c = due_most f aim in
      fits_at f aim base later K R u l (omega arith) (omega arith) (omega arith)

-- the packet comes to its stations one after the other
abbrev pub Plain : Network → LinkId → Done → ℕ → ℕ → ℕ → ℕ → List Segment → Type 0
Plain z r f d K R u [] = (is_some (distance (without r z) d u) ≡ true) × Fits z r f d 1 0 K R u
Plain z r f d K R u (Node x ∷ ss) =
    (is_some (distance (without r z) x u) ≡ true) × Reachable (without r z) d x ss × Fits z r f x (enough_hops z.n (length ss)) (suc (length ss)) K R u
Plain z r f d K R u (Link a b ∷ ss) =
    (a ≡ u) × (0 < (without r z).cost a b) × Reachable (without r z) d b ss × (suc (enough_hops z.n (length ss)) ≤ K) × (suc (length ss) ≤ R)

pub plain_from : (z : Network) (r : LinkId) (f : Done) (d K R u : ℕ) (ss : List Segment) → Reachable (without r z) d u ss → enough_hops z.n (length ss) ≤ K → suc (length ss) ≤ R → Plain z r f d K R u ss
plain_from z r f d K R u [] h le l = (h, fits_any z r f d 1 0 K R u l (omega arith))
plain_from z r f d K R u (Node x ∷ ss) h le l = (h.0, h.1, fits_any z r f x (enough_hops z.n (length ss)) (suc (length ss)) K R u l (omega arith))
plain_from z r f d K R u (Link a b ∷ ss) h le l = (h.0, h.1, h.2, omega arith, omega arith)

plain_more : (z : Network) (r : LinkId) (f g : Done) → Grows f g → (d K R u : ℕ) → u < z.n → (ss : List Segment) → Plain z r f d K R u ss → Plain z r g d K R u ss
plain_more z r f g more d K R u b [] h = (h.0, fits_more z r f g more d 1 0 K R u b h.1)
plain_more z r f g more d K R u b (Node x ∷ ss) h = (h.0, h.1, fits_more z r f g more x (enough_hops z.n (length ss)) (suc (length ss)) K R u b h.2)
plain_more z r f g more d K R u b (Link x y ∷ ss) h = h

-- or it is on a repair, since some path uses the link: to p, over the link p-q, and on by a path that does not
pub record OnRepair (z : Network) (r : LinkId) (m d K R u : ℕ) (ss : List Segment) : Type 0 where
  pub from : ℕ
  pub aim : ℕ
  pub touched : uses z r aim from ≡ true
  pub p : ℕ
  pub q : ℕ
  pub c : ℕ
  pub rest : List Segment
  pub is : ss ≡ Node p ∷ (Link p q ∷ rest)
  pub to_p : distance z p u ≡ Some c
  pub clear_to : uses z r p u ≡ false
  pub link : 0 < z.cost p q
  pub clear_over : joins r p q ≡ false
  pub few : length rest ≤ m
  pub J : ℕ
  pub L : ℕ
  pub enough : hops z p u + suc J ≤ K
  pub spare : L ≤ R
  pub then : (g : Done) (k l : ℕ) → J ≤ k → L ≤ l → Plain z r g d k l q rest

-- a packet for d, with at most m segments of its sender: K hops and R repairs are enough
pub data Ready (z : Network) (r : LinkId) (f : Done) (m d K R u : ℕ) (ss : List Segment) : Type 0 where
  plain : length ss ≤ m → Plain z r f d K R u ss → Ready z r f m d K R u ss
  on_repair : OnRepair z r m d K R u ss → Ready z r f m d K R u ss

pub ready_more : {z : Network} {r : LinkId} {f g : Done} {m d K R u : ℕ} {ss : List Segment} → Grows f g → u < z.n → Ready z r f m d K R u ss → Ready z r g m d K R u ss
ready_more {z} {r} {f} {g} {m} {d} {K} {R} {u} {ss} more b (plain s h) = plain s (plain_more z r f g more d K R u b ss h)
ready_more more b (on_repair h) = on_repair h

pub ready_few : {z : Network} {r : LinkId} {f : Done} {m d K R u : ℕ} {ss : List Segment} → Ready z r f m d K R u ss → length ss ≤ m + 2
ready_few (plain s h) = omega arith
ready_few (on_repair h) = omega (arith, h.few, ap (λ (l : List Segment). length l) h.is)

enough_some : (n k : ℕ) → 1 ≤ enough_hops n k
enough_some n k = let a : 1 * (2 * n * n + 4 * n + 1) ≤ suc k * (2 * n * n + 4 * n + 1) = mul-le-mul_right (2 * n * n + 4 * n + 1) (omega arith) in omega arith

plain_some : (z : Network) (r : LinkId) (f : Done) (d K R u : ℕ) (ss : List Segment) → Plain z r f d K R u ss → 1 ≤ K
plain_some z r f d K R u [] h = (fits_base h.1).0
plain_some z r f d K R u (Node x ∷ ss) h = omega (arith, (fits_base h.2).0, enough_some z.n (length ss))
plain_some z r f d K R u (Link a b ∷ ss) h = omega (arith, h.3)

-- and at least one hop
pub ready_some : {z : Network} {r : LinkId} {f : Done} {m d K R u : ℕ} {ss : List Segment} → Ready z r f m d K R u ss → 1 ≤ K
ready_some {z} {r} {f} {m} {d} {K} {R} {u} {ss} (plain s h) = plain_some z r f d K R u ss h
ready_some (on_repair h) = omega (arith, h.enough)
