use Rattle.protocol.proofs.Spending.{repair_cost}
use Rattle.protocol.proofs.repair_cost_holds.Goals as goal

pub returns : goal.returns
returns c = repair_cost
