-- Whether a packet is under way.
use Rattle.std.specs.Prelude.{ℕ}
use Rattle.network.specs.declared.flight.FlightState.{FlightState}
use Rattle.network.specs.declared.flight.FlightState.TheVariants.{UnderWay, Delivered, Dropped}
use Rattle.types.specs.Packet.{packet_of}

-- how many hops it may still go; none where it has ended
abbrev pub hops_left : FlightState → ℕ
hops_left (UnderWay p) = (packet_of p).hop_limit
hops_left Delivered = 0
hops_left (Dropped r) = 0
