use Rattle.protocol.proofs.Spending.{once_for_aim}
use Rattle.protocol.proofs.once_for_aim_holds.Goals as goal

pub returns : goal.returns
returns c = once_for_aim
