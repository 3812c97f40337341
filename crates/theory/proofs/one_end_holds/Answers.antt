use Rattle.theory.proofs.Using.{one_end}
use Rattle.theory.proofs.one_end_holds.Goals as goal

pub returns : goal.returns
returns c = one_end
