use Rattle.theory.proofs.DistanceLaws.{distance_by_lem}
use Rattle.theory.proofs.triangle_holds.Goals as goal

pub returns : goal.returns
returns c = distance_by_lem
