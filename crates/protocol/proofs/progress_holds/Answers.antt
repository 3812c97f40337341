use Rattle.protocol.proofs.Ending.{progress}
use Rattle.protocol.proofs.progress_holds.Goals as goal

pub returns : goal.returns
returns c = progress
