use Rattle.std.proofs.Common.{◌≡◌, ◌+◌, ◌-◌, ◌≤◌, length, Option, None}
use Rattle.types.specs.Packet.{packet_of}
use Rattle.types.specs.declared.segment.Segment.{Segment}
use Rattle.wire.specs.Cursor.{read_as}
use Rattle.wire.specs.Packets.{segments_in}
use Rattle.wire.proofs.PacketBytes.{with_more}
use Rattle.wire.proofs.packet.parse_segments.Given as goal

-- the segments that are left, behind those of the packet
abbrev pub invariant-loop : goal.invariant-loop
invariant-loop l =
    let left = l.count - l.counter in
    let all = segments_in l.nodes l.count None l.cursor.size l.cursor.bytes.now in
    let answer = read_as (with_more (packet_of l.fn.packet)) all in
    (last : Option Segment) ×
    (read_as (with_more (packet_of l.longer)) (segments_in l.nodes left last l.rest.size l.rest.bytes.now) ≡ answer) ×
    (length (packet_of l.longer).segments + left ≤ 5)
