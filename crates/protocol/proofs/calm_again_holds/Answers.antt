use Rattle.protocol.proofs.Ending.{calm_again}
use Rattle.protocol.proofs.calm_again_holds.Goals as goal

pub returns : goal.returns
returns c = calm_again
