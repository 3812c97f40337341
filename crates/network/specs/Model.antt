-- A network in the protocol's words.
use Rattle.std.specs.Prelude.{ℕ, false, List, [], length, vec_items, if◌then◌else◌, nat_lt}
use Rattle.network.specs.Arrival.{arrival_in, has_come}
use Rattle.network.specs.Places.{flight_at, outside, path_at, router_at}
use Rattle.network.specs.declared.arrival.Arrival.{Arrival}
use Rattle.network.specs.declared.flight.Flight.{Flight}
use Rattle.network.specs.declared.network.Network.{Network}
use Rattle.protocol.specs.Router.{idle}
use Rattle.protocol.specs.System.{System, NoPacket}
use Rattle.router.specs.declared.router.Router.{Router}
use Rattle.theory.specs.Network as theory
use Rattle.types.specs.declared.message.Sent.{Sent}

abbrev pub system_of : List Router → List Sent → List Arrival → List Flight → System
system_of rs ms cs fs =
    record { routers = router_at rs; said = ms; came = λ k. has_come (arrival_in cs k); flights = flight_at fs }

abbrev pub system : Network → System
system net = system_of (vec_items net.routers) (vec_items net.said) (vec_items net.arrivals) (vec_items net.flights)

-- how many nodes and packets there are
abbrev pub nodes_in : Network → ℕ
nodes_in net = length (vec_items net.routers)

abbrev pub packets_in : Network → ℕ
packets_in net = length (vec_items net.flights)

-- the nodes at which packet q has been
abbrev pub path_of_packet : Network → ℕ → List ℕ
path_of_packet net q = path_at (vec_items net.flights) q

-- as it begins: all routers have been given the same list
abbrev pub begun : theory.Network → System
begun z =
    record {
      routers = λ u. if nat_lt u z.n then idle z [] u else outside;
      said = [];
      came = λ k. false;
      flights = λ q. NoPacket;
    }
