-- The laws of distances, next hops and paths, for every lawful network. Each is a type; a term of that type in proofs/ is its proof.
-- Assumes nothing.
use Rattle.std.specs.Prelude.{◌≡◌, ℕ, ◌+◌, ◌<◌, ◌≤◌, false, ◌||◌, ◌⊎◌, ◌↔◌, List, [], ◌∷◌, ◌++◌, length, Some, None, Option, ◌≢◌}
use Rattle.theory.specs.Network.{Network, Lawful, Limited, LinkId, joins}
use Rattle.theory.specs.Distance.{IsPath, path_cost, IsDistance, distance}
use Rattle.theory.specs.NextHop.{AsNear, IsNextHop, next_hop, path, uses}

-- the distance is the least cost over all paths, attained by one; none exactly where there is no path
abbrev pub Least : Type 0
Least = (z : Network) → Lawful z → (d a : ℕ) (r : Option ℕ) → (distance z d a ≡ r) ↔ IsDistance z d a r

-- it is the same both ways
abbrev pub Symmetric : Type 0
Symmetric = (z : Network) → Lawful z → (d a : ℕ) → distance z d a ≡ distance z a d

-- and no longer than by way of a third node
abbrev pub Triangle : Type 0
Triangle =
    (z : Network) → Lawful z → (d b a p q : ℕ) → distance z b a ≡ Some p → distance z d b ≡ Some q →
    (c : ℕ) × (distance z d a ≡ Some c) × (c ≤ p + q)

-- only a node itself is at the distance 0
abbrev pub ZeroAtSelf : Type 0
ZeroAtSelf = (z : Network) → Lawful z → (d a : ℕ) → (distance z d a ≡ Some 0) ↔ (a ≡ d)

-- over a next hop the distance falls by the link's cost, which is at least 1
abbrev pub Falls : Type 0
Falls = (z : Network) → Lawful z → (d a e : ℕ) → next_hop z d a ≡ Some e → AsNear z d a e

-- the next hop is the lowest-numbered neighbour that is as near
abbrev pub Lowest : Type 0
Lowest = (z : Network) → Lawful z → (d a e : ℕ) → (next_hop z d a ≡ Some e) ↔ IsNextHop z d a e

-- there is none exactly at d itself and where there is no path
abbrev pub NoHop : Type 0
NoHop = (z : Network) → Lawful z → (d a : ℕ) → (next_hop z d a ≡ None) ↔ ((a ≡ d) ⊎ (distance z d a ≡ None))

-- the path goes from next hop to next hop, as far as there is one
abbrev pub PathSteps : Type 0
PathSteps =
    (z : Network) → Lawful z → (d a : ℕ) →
    (next_hop z d a ≡ None → path z d a ≡ []) × ((e : ℕ) → next_hop z d a ≡ Some e → path z d a ≡ (e ∷ path z d e))

-- it uses a link if its first step does, or the rest
abbrev pub UsesSteps : Type 0
UsesSteps =
    (z : Network) → Lawful z → (r : LinkId) (d a : ℕ) →
    (next_hop z d a ≡ None → uses z r d a ≡ false) × ((e : ℕ) → next_hop z d a ≡ Some e → uses z r d a ≡ (joins r a e || uses z r d e))

-- it leads to d at the cost of the distance
abbrev pub Leads : Type 0
Leads =
    (z : Network) → Lawful z → (d a c : ℕ) → distance z d a ≡ Some c →
    IsPath z d a (path z d a) × (path_cost z a (path z d a) ≡ c)

abbrev pub NotIn : ℕ → List ℕ → Type 0
NotIn x [] = Unit {0}
NotIn x (y ∷ ys) = (x ≢ y) × NotIn x ys

abbrev pub Once : List ℕ → Type 0
Once [] = Unit {0}
Once (x ∷ xs) = NotIn x xs × Once xs

-- no node is on it twice
abbrev pub NoNodeTwice : Type 0
NoNodeTwice = (z : Network) → Lawful z → (d a : ℕ) → Once (a ∷ path z d a)

-- it has at most n - 1 hops
abbrev pub FewHops : Type 0
FewHops = (z : Network) → Lawful z → (d a : ℕ) → a < z.n → length (path z d a) < z.n

-- no distance is above 63 * 65,535
abbrev pub Bounded : Type 0
Bounded = (z : Network) → Lawful z → Limited z → (d a c : ℕ) → distance z d a ≡ Some c → c ≤ 4128705

-- a piece of a path by next hops, from x to y, is the path by next hops to its own end
abbrev pub Piece : Type 0
Piece =
    (z : Network) → Lawful z → (d a x y : ℕ) (before between after : List ℕ) →
    (a ∷ path z d a) ≡ (before ++ (x ∷ (between ++ (y ∷ after)))) → path z y x ≡ (between ++ (y ∷ []))
