-- A network as rows of 64 costs, a row for each node.
use Rattle.std.specs.Prelude.{◌≡◌, ℕ, ◌+◌, ◌*◌, ◌<◌, ◌&&◌, List, length, Some, None, Option, if◌then◌else◌, ◌==◌, nat_lt, slice_index, slice_set}
use Rattle.theory.specs.Network.{Network}

-- the cost in row a and column b; only the first n of each count
abbrev pub cost_at : ℕ → List ℕ → ℕ → ℕ → ℕ
cost_at n m a b = if nat_lt a n && nat_lt b n then slice_index m (a * 64 + b) else 0

abbrev pub network_in : ℕ → List ℕ → Network
network_in n m = record { n = n; cost = cost_at n m }

-- what the link between a and b costs, if there is one
abbrev pub link_cost : Network → ℕ → ℕ → Option ℕ
link_cost z a b = if z.cost a b == 0 then None else Some (z.cost a b)

-- the link between a and b costs v, both ways
abbrev pub put : ℕ → ℕ → ℕ → List ℕ → List ℕ
put a b v m = slice_set (slice_set m (a * 64 + b) v) (b * 64 + a) v

-- l has the costs of the links of a
pub record CostRow (z : Network) (a : ℕ) (l : List ℕ) : Type 0 where
  pub size : length l ≡ z.n
  pub each : (b : ℕ) → b < z.n → slice_index l b ≡ z.cost a b
