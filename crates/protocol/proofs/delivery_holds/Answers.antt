use Rattle.protocol.proofs.Delivered.{delivery}
use Rattle.protocol.proofs.delivery_holds.Goals as goal

pub returns : goal.returns
returns c = delivery
