use Rattle.theory.proofs.Stated.{least}
use Rattle.theory.proofs.least_holds.Goals as goal

pub returns : goal.returns
returns c = least
