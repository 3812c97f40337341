use Rattle.protocol.proofs.CanEnd.{can_end}
use Rattle.protocol.proofs.can_end_holds.Goals as goal

pub returns : goal.returns
returns c = can_end
