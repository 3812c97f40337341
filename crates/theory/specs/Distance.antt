-- Paths, what they cost, and the distance: the least cost of a path. Assumes nothing.
use Rattle.std.specs.Prelude.{◌≡◌, ℕ, zero, suc, ◌+◌, ◌<◌, ◌≤◌, cond, List, [], ◌∷◌, Some, None, Option, ◌==◌, nat_le}
use Rattle.theory.specs.Network.{Network}

-- p lists the nodes after a on a path, link by link, from a to d
abbrev pub IsPath : Network → ℕ → ℕ → List ℕ → Type 0
IsPath z d a [] = a ≡ d
IsPath z d a (b ∷ p) = (0 < z.cost a b) × IsPath z d b p

unfoldable pub path_cost : Network → ℕ → List ℕ → ℕ
path_cost z a [] = 0
path_cost z a (b ∷ p) = z.cost a b + path_cost z b p

-- some path from a to d costs c
pub record Found (z : Network) (d a c : ℕ) : Type 0 where
  pub nodes : List ℕ
  pub path : IsPath z d a nodes
  pub cost : path_cost z a nodes ≡ c

-- what a distance is: none where there is no path, else the cost of a path than which none is cheaper
abbrev pub IsDistance : Network → ℕ → ℕ → Option ℕ → Type 0
IsDistance z d a None = (p : List ℕ) → IsPath z d a p → ⊥
IsDistance z d a (Some c) = Found z d a c × ((p : List ℕ) → IsPath z d a p → c ≤ path_cost z a p)

-- the lesser of two distances
abbrev pub lesser : Option ℕ → Option ℕ → Option ℕ
lesser None y = y
lesser (Some a) None = Some a
lesser (Some a) (Some b) = cond (nat_le a b) (Some a) (Some b)

abbrev pub plus : ℕ → Option ℕ → Option ℕ
plus c None = None
plus c (Some a) = Some (c + a)

-- a distance that begins with a link of cost c; none where there is no link
abbrev pub over : ℕ → Option ℕ → Option ℕ
over c x = cond (c == 0) None (plus c x)

-- the least over the first k neighbours of a, each at the distance f
unfoldable pub least_over : Network → (ℕ → Option ℕ) → ℕ → ℕ → Option ℕ
least_over z f a zero = None
least_over z f a (suc k) = lesser (least_over z f a k) (over (z.cost a k) (f k))

-- the least cost from a to d over at most k links
unfoldable pub distance_by : ℕ → Network → ℕ → ℕ → Option ℕ
distance_by zero z d a = cond (a == d) (Some 0) None
distance_by (suc k) z d a = lesser (distance_by k z d a) (least_over z (λ b. distance_by k z d b) a z.n)

-- the distance to d from a: n links are enough
abbrev pub distance : Network → ℕ → ℕ → Option ℕ
distance z d a = distance_by z.n z d a
