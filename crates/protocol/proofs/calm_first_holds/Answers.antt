use Rattle.protocol.proofs.Ending.{calm_first}
use Rattle.protocol.proofs.calm_first_holds.Goals as goal

pub returns : goal.returns
returns c = calm_first
