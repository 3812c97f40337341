use Rattle.types.specs.Packet.{packet_of}
use Rattle.types.proofs.Stripped.{strips_on, strips_none}
use Rattle.types.proofs.packet.Packet.+stripped.Goals as goal

pub returns-then-own_first : goal.returns-then-own_first
returns-then-own_first t c =
    strips_on c.args.u (packet_of c.args.self) (packet_of c.without_first.result) (packet_of c.stripped.result)
    c.segments.result.now c.segments.ensures c.if-own_first.ensures c.without_first.ensures c.stripped.ensures

pub returns : goal.returns
returns t c =
    strips_none c.args.u (packet_of c.args.self) c.segments.result.now c.segments.ensures c.if-own_first.ensures
