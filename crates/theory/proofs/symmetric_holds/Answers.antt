use Rattle.theory.proofs.DistanceLaws.{distance_symmetric}
use Rattle.theory.proofs.symmetric_holds.Goals as goal

pub returns : goal.returns
returns c = distance_symmetric
