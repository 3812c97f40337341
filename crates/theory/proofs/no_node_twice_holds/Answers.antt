use Rattle.theory.proofs.HopPaths.{once}
use Rattle.theory.proofs.no_node_twice_holds.Goals as goal

pub returns : goal.returns
returns c = once
