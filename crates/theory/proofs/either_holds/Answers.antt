use Rattle.theory.proofs.Using.{either}
use Rattle.theory.proofs.either_holds.Goals as goal

pub returns : goal.returns
returns c = either
