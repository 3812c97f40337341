use Rattle.theory.proofs.Stated.{no_hop}
use Rattle.theory.proofs.no_hop_holds.Goals as goal

pub returns : goal.returns
returns c = no_hop
