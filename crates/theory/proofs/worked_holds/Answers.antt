use Rattle.theory.proofs.Cases.{worked}
use Rattle.theory.proofs.worked_holds.Goals as goal

pub returns : goal.returns
returns c = worked
