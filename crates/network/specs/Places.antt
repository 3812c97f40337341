-- Routers at their nodes, and packets at nodes.
use Rattle.std.specs.Prelude.{◌≡◌, ℕ, ◌<◌, List, [], length, map, slice_index_or}
use Rattle.network.specs.Flight.{flight_of, node_in, path_of}
use Rattle.network.specs.declared.flight.Flight.{Flight}
use Rattle.protocol.specs.Router as protocol
use Rattle.protocol.specs.System as system
use Rattle.router.specs.Model.{model}
use Rattle.router.specs.declared.router.Router.{Router}

-- outside the network there is a router without links
abbrev pub outside : protocol.Router
outside = protocol.idle (record { n = 0; cost = λ a b. 0 }) [] 0

abbrev pub router_at : List Router → ℕ → protocol.Router
router_at rs u = slice_index_or (map model rs) u outside

abbrev pub flight_at : List Flight → ℕ → system.Flight
flight_at fs q = slice_index_or (map flight_of fs) q system.NoPacket

abbrev pub path_at : List Flight → ℕ → List ℕ
path_at fs q = slice_index_or (map path_of fs) q []

-- each router is at its node, and its list has as many nodes as there are routers
abbrev pub RoutersInPlace : List Router → Type 0
RoutersInPlace rs = (u : ℕ) → u < length rs → ((router_at rs u).me ≡ u) × ((router_at rs u).links.n ≡ length rs)

-- each packet is at one of these nodes
abbrev pub PacketsInPlace : List Router → List Flight → Type 0
PacketsInPlace rs fs = (q : ℕ) → q < length fs → node_in (flight_at fs q) < length rs
