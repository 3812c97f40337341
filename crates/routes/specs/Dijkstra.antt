-- Dijkstra's algorithm: its steps, and where it stands between them.
use Rattle.std.specs.Prelude.{◌≡◌, ℕ, ◌+◌, ◌<◌, ◌≤◌, Bool, true, false, ◌&&◌, ◌⊎◌, List, length, Option, MatchOption, if◌then◌else◌, nat_lt, slice_index, slice_index_or}
use Rattle.theory.specs.Network.{Network}
use Rattle.theory.specs.Distance.{IsPath, path_cost, Found}
use Rattle.types.specs.NodeSets.{has}
use Rattle.types.specs.declared.node_set.NodeSet.{NodeSet}

-- the distance once the link of that cost, to a node at the distance here, is taken into account
abbrev pub relaxed : ℕ → ℕ → ℕ → ℕ
relaxed cost here there = if nat_lt 0 cost && nat_lt (here + cost) there then here + cost else there

-- so for the links of the node u, at the distance here, to the nodes of s; other distances stay
pub record Relaxes (z : Network) (u here : ℕ) (s : NodeSet) (old new : List ℕ) : Type 0 where
  pub size : length new ≡ length old
  pub each : (e : ℕ) → e < z.n →
      slice_index new e ≡
      (if has s e then relaxed (z.cost u e) here (slice_index old e) else slice_index old e)

-- so for each node, by a row of what the links cost
pub record RelaxesRow (row : List ℕ) (here : ℕ) (old new : List ℕ) : Type 0 where
  pub size : length new ≡ length old
  pub each : (e : ℕ) → e < length row → slice_index new e ≡ relaxed (slice_index row e) here (slice_index old e)

-- so for the links of u to the nodes of s, and maybe for others
pub record RelaxesFor (z : Network) (u here : ℕ) (s : NodeSet) (old new : List ℕ) : Type 0 where
  pub size : length new ≡ length old
  pub each : (e : ℕ) → e < z.n →
      (slice_index new e ≡ relaxed (z.cost u e) here (slice_index old e)) ⊎
      ((has s e ≡ false) × (slice_index new e ≡ slice_index old e))

-- the least over the links of a to the nodes of s, whose distances dist has; 2^32 - 1 where there is none
pub record LeastOver (z : Network) (a : ℕ) (s : NodeSet) (dist : List ℕ) (c : ℕ) : Type 0 where
  pub top : c ≤ 4294967295
  pub least : (e : ℕ) → has s e ≡ true → c ≤ z.cost a e + slice_index dist e
  pub one : (c ≡ 4294967295) ⊎ ((e : ℕ) × (has s e ≡ true) × (c ≡ z.cost a e + slice_index dist e))

-- the nodes of s are below n
abbrev pub AllBelow : ℕ → NodeSet → Type 0
AllBelow n s = (u : ℕ) → has s u ≡ true → u < n

-- none of the nodes has a distance
abbrev pub NoneNearer : NodeSet → List ℕ → Type 0
NoneNearer s dist = (u : ℕ) → has s u ≡ true → 4294967295 ≤ slice_index dist u

-- u is one of them and has a distance, and none has a lesser one
pub record Nearest (s : NodeSet) (dist : List ℕ) (u : ℕ) : Type 0 where
  pub in_set : has s u ≡ true
  pub some : slice_index_or dist u 0 < 4294967295
  pub least : (v : ℕ) → has s v ≡ true → slice_index dist u ≤ slice_index dist v

abbrev pub IsNearest : NodeSet → List ℕ → Option ℕ → Type 0
IsNearest s dist r = MatchOption r (NoneNearer s dist) (λ u. Nearest s dist u)

-- o says which nodes are free, and f how far each is from d as yet: a found path's cost, 2^32 - 1 where none is
-- known; of those that are settled it is the least, and their links are taken into account
pub record Partly (z : Network) (d : ℕ) (o : ℕ → Bool) (f : ℕ → ℕ) : Type 0 where
  pub start : f d ≡ 0
  pub top : (v : ℕ) → v < z.n → f v ≤ 4294967295
  pub found : (v : ℕ) → v < z.n → f v < 4294967295 → Found z d v (f v)
  pub right : (v : ℕ) → v < z.n → o v ≡ false → (ws : List ℕ) → IsPath z d v ws →
      f v ≤ path_cost z v ws
  pub links : (u e : ℕ) → o u ≡ false → 0 < z.cost u e → f e ≤ z.cost u e + f u

-- the nodes of s are free, and dist says how far each node is as yet
pub record Standing (z : Network) (d : ℕ) (s : NodeSet) (dist : List ℕ) : Type 0 where
  pub within : AllBelow z.n s
  pub size : length dist ≡ z.n
  pub aim : d < z.n
  pub part : Partly z d (has s) (λ v. slice_index dist v)
