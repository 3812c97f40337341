use Rattle.theory.proofs.Without.{not_nearer}
use Rattle.theory.proofs.not_nearer_holds.Goals as goal

pub returns : goal.returns
returns c = not_nearer
