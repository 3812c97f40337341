-- A packet that is played, in the protocol's words.
use Rattle.std.specs.Prelude.{◌≡◌, ℕ, ◌-◌, List, [], ◌∷◌, length, vec_items, slice_index}
use Rattle.network.specs.declared.flight.Flight.{Flight}
use Rattle.network.specs.declared.flight.FlightState.{FlightState}
use Rattle.network.specs.declared.flight.FlightState.TheVariants.{UnderWay, Delivered, Dropped}
use Rattle.network.specs.declared.send_request.SendRequest.{SendRequest}
use Rattle.protocol.specs.Packet.{Decision, Deliver, Send, Drop, forward}
use Rattle.protocol.specs.Router.{Router}
use Rattle.protocol.specs.System as protocol
use Rattle.types.specs.Packet.{fresh, packet_of, Packet}
use Rattle.types.specs.Segments.{segments_of}

-- the packet that is sent
abbrev pub packet_of_request : SendRequest → Packet
packet_of_request r = fresh r.destination (segments_of r.segments)

abbrev pub flight_in : FlightState → (at spent : ℕ) → protocol.Flight
flight_in (UnderWay p) u c = protocol.UnderWay u c (packet_of p)
flight_in Delivered u c = protocol.Delivered u c
flight_in (Dropped r) u c = protocol.Dropped u c r

-- the nodes at which it has been
abbrev pub path_of : Flight → List ℕ
path_of f = vec_items f.path

-- where it is: the last of them
abbrev pub place_of : Flight → ℕ
place_of f = slice_index (path_of f) (length (path_of f) - 1)

abbrev pub flight_of : Flight → protocol.Flight
flight_of f = flight_in f.state (place_of f) f.spent

-- flight and path are the same
pub record SameFlight (old new : Flight) : Type 0 where
  pub flight : flight_of new ≡ flight_of old
  pub path : path_of new ≡ path_of old

-- where a packet is
abbrev pub node_in : protocol.Flight → ℕ
node_in protocol.NoPacket = 0
node_in (protocol.UnderWay u c p) = u
node_in (protocol.Delivered u c) = u
node_in (protocol.Dropped u c k) = u

-- what it has spent
abbrev pub spent_in : protocol.Flight → ℕ
spent_in protocol.NoPacket = 0
spent_in (protocol.UnderWay u c p) = c
spent_in (protocol.Delivered u c) = c
spent_in (protocol.Dropped u c k) = c

-- the node to which it is sent, if it is sent on
abbrev pub sent_to : Decision → List ℕ
sent_to Deliver = []
sent_to (Send v p) = v ∷ []
sent_to (Drop k) = []

abbrev pub next_nodes : Router → protocol.Flight → List ℕ
next_nodes s protocol.NoPacket = []
next_nodes s (protocol.UnderWay u c p) = sent_to (forward s p)
next_nodes s (protocol.Delivered u c) = []
next_nodes s (protocol.Dropped u c k) = []
