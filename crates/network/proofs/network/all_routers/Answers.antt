use Rattle.std.proofs.Common.{vec_items}
use Rattle.links.specs.Topology.{network}
use Rattle.network.proofs.Built.{idle_more, idle_none}
use Rattle.network.proofs.network.all_routers.Goals as goal

pub loop-node-init : goal.loop-node-init
loop-node-init c = idle_none (network c.args.topology.now) (vec_items c.new-routers.result) c.new-routers.ensures.items

pub loop-node-preserved : goal.loop-node-preserved
loop-node-preserved c =
    idle_more (network c.args.topology.now) c.loop-node.node (vec_items c.loop-node.routers) (vec_items c.push.new.self) c.new.result c.loop-node.invariant c.new.ensures c.in_ok-push.ensures.items
