use Rattle.theory.proofs.HopPaths.{bounded}
use Rattle.theory.proofs.bounded_holds.Goals as goal

pub returns : goal.returns
returns c = bounded
