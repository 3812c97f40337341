use Rattle.protocol.proofs.Delivered.{repaired_once}
use Rattle.protocol.proofs.repaired_once_holds.Goals as goal

pub returns : goal.returns
returns c = repaired_once
