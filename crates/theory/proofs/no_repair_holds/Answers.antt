use Rattle.theory.proofs.Repairs.{no_repair}
use Rattle.theory.proofs.no_repair_holds.Goals as goal

pub returns : goal.returns
returns c = no_repair
