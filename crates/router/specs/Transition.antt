-- A change that is under way at a router, in the protocol's words.
use Rattle.std.specs.Prelude.{ℕ, Bool, List, slice_index_or}
use Rattle.protocol.specs.Router as protocol
use Rattle.router.specs.declared.transition.Transition.{Transition}
use Rattle.types.specs.NodeSets.{has}
use Rattle.types.specs.declared.node_set.NodeSet.{NodeSet}

-- by destination d, is u in the set of d?
abbrev pub in_set_of : List NodeSet → ℕ → ℕ → Bool
in_set_of l d = has (slice_index_or l d (record { 0 = 0 }))

abbrev pub transition_of : Transition → protocol.Transition
transition_of t = record { link = t.link; switched = has t.switched; pending = in_set_of t.pending }
