-- How far messages are.
use Rattle.std.specs.Prelude.{ℕ, Bool, true, false, List, slice_index_or}
use Rattle.network.specs.declared.arrival.Arrival.{Arrival}
use Rattle.network.specs.declared.arrival.Arrival.TheVariants.{NotYet, Again, Over}

-- it has arrived at least once
abbrev pub has_come : Arrival → Bool
has_come NotYet = false
has_come Again = true
has_come Over = true

-- it is no longer under way
abbrev pub is_over : Arrival → Bool
is_over NotYet = false
is_over Again = false
is_over Over = true

-- a message with no entry has not arrived yet
abbrev pub arrival_in : List Arrival → ℕ → Arrival
arrival_in l k = slice_index_or l k NotYet
