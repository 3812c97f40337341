use Rattle.theory.proofs.Repairs.{last_clear_lem}
use Rattle.theory.proofs.last_clear_holds.Goals as goal

pub returns : goal.returns
returns c = last_clear_lem
