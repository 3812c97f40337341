use Rattle.protocol.proofs.Spending.{cost_after}
use Rattle.protocol.proofs.cost_after_holds.Goals as goal

pub returns : goal.returns
returns c = cost_after
