use Rattle.protocol.proofs.Order.{untouched_switch}
use Rattle.protocol.proofs.untouched_switch_holds.Goals as goal

pub returns : goal.returns
returns c = untouched_switch
