use Rattle.protocol.proofs.Rounds.{three_rounds}
use Rattle.protocol.proofs.three_rounds_holds.Goals as goal

pub returns : goal.returns
returns c = three_rounds
