-- The worked cases, by computation. Assumes nothing.
use Rattle.std.proofs.Common.{refl}
use Rattle.theory.specs.Repair.{last_clear}
use Rattle.theory.specs.Worked.{Worked}
use Rattle.theory.specs.NextHop.{first_from, path_by, uses_by}
use Rattle.theory.specs.Distance.{least_over, distance_by}

pub worked : Worked
unfolding distance_by least_over first_from path_by uses_by last_clear
worked = ((refl, refl, refl), ((refl, refl, refl), ((refl, refl, refl), ((refl, refl, refl), tt))))
