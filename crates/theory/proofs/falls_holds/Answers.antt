use Rattle.theory.proofs.Stated.{falls}
use Rattle.theory.proofs.falls_holds.Goals as goal

pub returns : goal.returns
returns c = falls
