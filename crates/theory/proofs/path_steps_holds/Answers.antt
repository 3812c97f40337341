use Rattle.theory.proofs.Stated.{path_steps}
use Rattle.theory.proofs.path_steps_holds.Goals as goal

pub returns : goal.returns
returns c = path_steps
