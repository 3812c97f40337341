use Rattle.theory.proofs.Stated.{uses_steps}
use Rattle.theory.proofs.uses_steps_holds.Goals as goal

pub returns : goal.returns
returns c = uses_steps
