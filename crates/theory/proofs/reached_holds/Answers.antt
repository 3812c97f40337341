use Rattle.theory.proofs.Reached.{reached}
use Rattle.theory.proofs.reached_holds.Goals as goal

pub returns : goal.returns
returns c = reached
