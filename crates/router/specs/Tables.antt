-- A router's own tables.
use Rattle.std.specs.Prelude.{◌≡◌, ℕ, ◌+◌, ◌*◌, ◌<◌, ◌≤◌, Bool, true, false, ◌&&◌, ◌⊎◌, List, Some, None, Option, ◌==◌, slice_index_or}
use Rattle.std.specs.Option.{ForSome}
use Rattle.theory.specs.Network.{Network, without}
use Rattle.theory.specs.NextHop.{next_hop, same}
use Rattle.theory.specs.Repair as theory
use Rattle.repairs.specs.Entries.{meaning}
use Rattle.repairs.specs.declared.repair.Entry.{Entry}
use Rattle.repairs.specs.declared.repair.Entry.TheVariants.{Unused, Apart, Via}
use Rattle.router.specs.Transition.{in_set_of}
use Rattle.router.specs.declared.transition.Transition.{Transition}
use Rattle.types.specs.declared.node_set.NodeSet.{NodeSet}

-- l has the next hops of u for the first k destinations: as a test, since a ghost field takes no equation of options
abbrev pub OwnHops : Network → ℕ → ℕ → List (Option ℕ) → Type 0
OwnHops z u k l = (d : ℕ) → d < k → same (slice_index_or l d None) (next_hop z d u) ≡ true

abbrev pub same_laid : theory.Laid → theory.Laid → Bool
same_laid theory.Unused theory.Unused = true
same_laid theory.Unused theory.Apart = false
same_laid theory.Unused (theory.Via p q) = false
same_laid theory.Apart theory.Unused = false
same_laid theory.Apart theory.Apart = true
same_laid theory.Apart (theory.Via p q) = false
same_laid (theory.Via a b) theory.Unused = false
same_laid (theory.Via a b) theory.Apart = false
same_laid (theory.Via a b) (theory.Via p q) = a == p && b == q

-- the repair that an entry has
abbrev pub found : Entry → Option theory.Repair
found Unused = None
found Apart = None
found (Via x) = Some x

-- in rows of 64, the row of each of the first k nodes that is a neighbour of u has the repairs of u for the link to it
abbrev pub OwnRepairs : Network → ℕ → ℕ → List Entry → Type 0
OwnRepairs z u k l =
    (f d : ℕ) → (f < k) × (d < z.n) × (0 < z.cost u f) →
    same_laid (meaning (slice_index_or l (f * 64 + d) Unused)) (theory.laid z u f d) ≡ true

-- only the sets of the first n nodes have nodes in them, and only such nodes
abbrev pub OnlyBelow : ℕ → List NodeSet → Type 0
OnlyBelow n l = (d u : ℕ) → (n ≤ d) ⊎ (n ≤ u) → in_set_of l d u ≡ false

-- while a change is under way: the next hops of u without the failed link, and only nodes are waited for
abbrev pub IsUnderWay : Network → ℕ → Option Transition → Type 0
IsUnderWay z u o = ForSome o (λ t. OwnHops (without t.link z) u z.n t.hops × OnlyBelow z.n t.pending)
