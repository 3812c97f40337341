use Rattle.std.proofs.Common.{vec_items}
use Rattle.links.specs.Topology.{network}
use Rattle.network.proofs.Built.{AllIdle}
use Rattle.network.proofs.network.all_routers.Given as goal

abbrev pub invariant-loop-node : goal.invariant-loop-node
invariant-loop-node l = AllIdle (network l.topology) l.node (vec_items l.routers)
