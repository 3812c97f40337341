use Rattle.protocol.proofs.Playing.{played_calm}
use Rattle.protocol.proofs.played_calm_holds.Goals as goal

pub returns : goal.returns
returns c = played_calm
