use Rattle.types.specs.Packet.{packet_of}
use Rattle.wire.proofs.PacketBytes.{packet_back}
use Rattle.wire.proofs.packet.emit_packet.Goals as goal

pub returns-then-is_err-clause-back : goal.returns-then-is_err-clause-back
returns-then-is_err-clause-back c = λ o n h. packet_back o n (packet_of c.args.packet.now) h

pub returns-else-is_err-clause-back : goal.returns-else-is_err-clause-back
returns-else-is_err-clause-back c = λ o n h. packet_back o n (packet_of c.args.packet.now) h
