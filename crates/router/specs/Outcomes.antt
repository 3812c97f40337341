-- What becomes of a packet, in the protocol's words.
use Rattle.protocol.specs.Packet as protocol
use Rattle.router.specs.declared.outcome.Outcome.{Outcome}
use Rattle.router.specs.declared.outcome.Outcome.TheVariants.{Delivered, Sent, Dropped}
use Rattle.types.specs.Packet.{packet_of}

abbrev pub decision_of : Outcome → protocol.Decision
decision_of Delivered = protocol.Deliver
decision_of (Sent to packet) = protocol.Send to (packet_of packet)
decision_of (Dropped reason) = protocol.Drop reason
