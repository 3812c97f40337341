use Rattle.protocol.proofs.Order.{afterwards}
use Rattle.protocol.proofs.afterwards_holds.Goals as goal

pub returns : goal.returns
returns c = afterwards
