use Rattle.theory.proofs.Stated.{lowest}
use Rattle.theory.proofs.lowest_holds.Goals as goal

pub returns : goal.returns
returns c = lowest
