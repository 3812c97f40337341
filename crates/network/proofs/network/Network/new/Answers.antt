use Rattle.std.proofs.Common.{vec_items}
use Rattle.links.specs.Topology.{network}
use Rattle.network.proofs.Built.{built}
use Rattle.network.proofs.network.Network.new.Goals as goal

pub invariant_of-result : goal.invariant_of-result
invariant_of-result c =
    let t = c.args.topology.now in
    let p = (built (network t) (vec_items c.in_ok-routers.routers) (vec_items c.new.result) (vec_items c.new-2.result) (vec_items c.new-3.result) t.few (record { count = c.in_ok-routers.ensures.count; each = c.in_ok-routers.ensures.idle }) c.new.ensures.items c.new-2.ensures.items c.new-3.ensures.items).placed in
    record { count = p.count; routers_in_place = p.routers; packets_in_place = p.packets }

pub returns : goal.returns
returns c =
    let t = c.args.topology.now in
    let p = built (network t) (vec_items c.in_ok-routers.routers) (vec_items c.new.result) (vec_items c.new-2.result) (vec_items c.new-3.result) t.few (record { count = c.in_ok-routers.ensures.count; each = c.in_ok-routers.ensures.idle }) c.new.ensures.items c.new-2.ensures.items c.new-3.ensures.items in
    record { system = p.system; nodes = c.in_ok-routers.ensures.count; calm = p.calm }
