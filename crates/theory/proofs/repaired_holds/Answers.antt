use Rattle.theory.proofs.Repairs.{repaired}
use Rattle.theory.proofs.repaired_holds.Goals as goal

pub returns : goal.returns
returns c = repaired
