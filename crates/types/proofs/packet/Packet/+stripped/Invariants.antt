use Rattle.std.proofs.Common.{length}
use Rattle.types.specs.Packet.{packet_of}
use Rattle.types.proofs.packet.Packet.+stripped.Given as goal

abbrev pub decreases-stripped : goal.decreases-stripped
decreases-stripped l = length (packet_of l.self).segments
