use Rattle.theory.proofs.Without.{untouched}
use Rattle.theory.proofs.untouched_holds.Goals as goal

pub returns : goal.returns
returns c = untouched
