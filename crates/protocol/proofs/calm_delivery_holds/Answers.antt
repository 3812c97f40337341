use Rattle.protocol.proofs.Delivered.{calm_delivery}
use Rattle.protocol.proofs.calm_delivery_holds.Goals as goal

pub returns : goal.returns
returns c = calm_delivery
