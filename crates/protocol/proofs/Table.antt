-- The worked cases, by computation.
use Rattle.std.proofs.Common.{refl}
use Rattle.protocol.specs.Table.{Table}
use Rattle.protocol.specs.Hearing.{came_early, tell}
use Rattle.protocol.specs.System.{nth, run}
use Rattle.protocol.specs.Router.{among}
use Rattle.protocol.specs.Packet.{forward_by}
use Rattle.protocol.specs.Switching.{none_below, all_below}
use Rattle.theory.proofs.Cases as theory
use Rattle.theory.specs.Repair.{last_clear}
use Rattle.theory.specs.NextHop.{first_from, path_by, uses_by}
use Rattle.theory.specs.Distance.{least_over, distance_by}
use Rattle.types.specs.Segments.{strip}

infixr 4 ◌&◌
◌&◌ : {A B : Type 0} → A → B → A × B
a & b = (a, b)

pub table : Table
unfolding distance_by least_over first_from path_by uses_by last_clear among came_early tell none_below all_below strip forward_by nth run
table =
    let w = theory.worked in
    w.0 & w.1.0 & w.1.1.0 & w.1.1.1.0 & refl & refl & refl & refl & refl & refl & refl &
    (refl & refl & refl & refl & refl & tt) & (refl & refl & refl & tt) & (refl & refl & refl & refl & tt) & (refl & refl & refl & refl & tt) & tt
