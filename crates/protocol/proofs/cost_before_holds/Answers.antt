use Rattle.protocol.proofs.Spending.{cost_before}
use Rattle.protocol.proofs.cost_before_holds.Goals as goal

pub returns : goal.returns
returns c = cost_before
