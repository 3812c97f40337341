-- A network of nodes and links, a link by its two ends, and the network without a link. Assumes nothing.
use Rattle.std.specs.Prelude.{◌≡◌, ℕ, ◌<◌, ◌≤◌, Bool, cond, ◌&&◌, ◌||◌, ◌==◌}

-- n nodes, numbered from 0; cost a b is what the link between a and b costs, 0 where there is none
pub record Network : Type 0 where
  pub n : ℕ
  pub cost : ℕ → ℕ → ℕ

-- a link costs the same both ways, and joins two different nodes of the network
pub record Lawful (z : Network) : Type 0 where
  pub symmetric : (a b : ℕ) → z.cost a b ≡ z.cost b a
  pub loopless : (a : ℕ) → z.cost a a ≡ 0
  pub within : (a b : ℕ) → 0 < z.cost a b → (a < z.n) × (b < z.n)

-- at most 64 nodes, and no link costs more than 65,535
pub record Limited (z : Network) : Type 0 where
  pub few : z.n ≤ 64
  pub light : (a b : ℕ) → z.cost a b ≤ 65535

-- a link by its two ends, in either order
pub record LinkId : Type 0 where
  pub a : ℕ
  pub b : ℕ

-- is it the link between x and y?
abbrev pub joins : LinkId → ℕ → ℕ → Bool
joins r x y = (x == r.a && y == r.b) || (x == r.b && y == r.a)

-- the network that is left when a link fails
abbrev pub without : LinkId → Network → Network
without r z = record { n = z.n; cost = λ x y. cond (joins r x y) 0 (z.cost x y) }
