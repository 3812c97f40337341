use Rattle.theory.proofs.Repairs.{same_path_repaired}
use Rattle.theory.proofs.same_path_holds.Goals as goal

pub returns : goal.returns
returns c = same_path_repaired
