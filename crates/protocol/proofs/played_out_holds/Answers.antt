use Rattle.protocol.proofs.Playing.{played_out}
use Rattle.protocol.proofs.played_out_holds.Goals as goal

pub returns : goal.returns
returns c = played_out
