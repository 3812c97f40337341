use Rattle.protocol.proofs.Order.{waits}
use Rattle.protocol.proofs.waits_holds.Goals as goal

pub returns : goal.returns
returns c = waits
