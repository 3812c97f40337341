use Rattle.theory.proofs.Stated.{zero_at_self}
use Rattle.theory.proofs.zero_at_self_holds.Goals as goal

pub returns : goal.returns
returns c = zero_at_self
