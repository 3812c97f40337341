use Rattle.protocol.proofs.Delivered.{within_limit}
use Rattle.protocol.proofs.within_limit_holds.Goals as goal

pub returns : goal.returns
returns c = within_limit
