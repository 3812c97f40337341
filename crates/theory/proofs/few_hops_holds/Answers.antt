use Rattle.theory.proofs.HopPaths.{few_hops}
use Rattle.theory.proofs.few_hops_holds.Goals as goal

pub returns : goal.returns
returns c = few_hops
