use Rattle.protocol.proofs.Spending.{untouched_cost}
use Rattle.protocol.proofs.untouched_cost_holds.Goals as goal

pub returns : goal.returns
returns c = untouched_cost
