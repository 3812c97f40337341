-- The neighbours of each node, as sets.
use Rattle.std.specs.Prelude.{◌≡◌, ℕ, ◌<◌, List, nat_lt, slice_index_or}
use Rattle.types.specs.NodeSets.{has}
use Rattle.types.specs.declared.node_set.NodeSet.{NodeSet}
use Rattle.routes.specs.Costs.{cost_at}

-- in a list of sets, that of the node a
abbrev pub set_at : List NodeSet → ℕ → NodeSet
set_at l a = slice_index_or l a (record { 0 = 0 })

-- of n nodes each has as neighbours those to which the costs have a link
abbrev pub LinkedEach : ℕ → List ℕ → List NodeSet → Type 0
LinkedEach n costs l = (a b : ℕ) → a < n → has (set_at l a) b ≡ nat_lt 0 (cost_at n costs a b)
