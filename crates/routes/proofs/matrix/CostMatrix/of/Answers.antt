use Rattle.std.proofs.Common.{sym, subst}
use Rattle.theory.specs.Network.{Lawful}
use Rattle.links.proofs.Lawful.{lawful}
use Rattle.routes.proofs.matrix.CostMatrix.of.Goals as goal

pub new-requires-clause-lawful : goal.new-requires-clause-lawful
new-requires-clause-lawful c =
    subst Lawful (sym c.costs_of.ensures) (lawful c.nodes-nodes.result c.links.result.now (rw c.nodes-nodes.ensures.value c.links.ensures.ordered))
