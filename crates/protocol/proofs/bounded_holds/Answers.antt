use Rattle.protocol.proofs.Measure.{bounded}
use Rattle.protocol.proofs.bounded_holds.Goals as goal

pub returns : goal.returns
returns c = bounded
