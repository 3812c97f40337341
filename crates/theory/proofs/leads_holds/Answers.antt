use Rattle.theory.proofs.HopPaths.{leads}
use Rattle.theory.proofs.leads_holds.Goals as goal

pub returns : goal.returns
returns c = leads
