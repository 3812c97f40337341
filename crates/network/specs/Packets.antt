-- Packets that are put into a network, and moved.
use Rattle.std.specs.Prelude.{◌≡◌, ◌≢◌, ℕ, ◌+◌, ◌<◌, ◌≤◌, List, [], ◌∷◌, ◌++◌}
use Rattle.network.specs.Events.{is_message_over}
use Rattle.network.specs.Flight.{next_nodes, node_in, packet_of_request}
use Rattle.network.specs.Model.{nodes_in, packets_in, path_of_packet, system}
use Rattle.network.specs.declared.network.Network.{Network}
use Rattle.network.specs.declared.send_request.SendRequest.{SendRequest}
use Rattle.protocol.specs.Delivery.{Arrived, Deliverable, Reachable}
use Rattle.protocol.specs.Failed.{after, Calm, Failed}
use Rattle.protocol.specs.Playing.{hops, Brought}
use Rattle.protocol.specs.System.{step, run, System, Event, Put, Hop}
use Rattle.theory.specs.Network as theory
use Rattle.theory.specs.Network.{without, Lawful, LinkId}
use Rattle.types.specs.Segments.{segments_of}
use Rattle.types.specs.declared.segment.Segment.{Segment}

-- as many nodes; packets but for q have been where they had been; and messages that were under way still are
pub record Apart (q : ℕ) (old new : Network) : Type 0 where
  pub nodes : nodes_in new ≡ nodes_in old
  pub paths : (p : ℕ) → (p ≢ q) → path_of_packet new p ≡ path_of_packet old p
  pub over : (k : ℕ) → is_message_over new k ≡ is_message_over old k

-- a packet waits at its start, under the next number
pub record Puts (r : SendRequest) (q : ℕ) (old new : Network) : Type 0 where
  pub next : q ≡ packets_in old
  pub is : system new ≡ step (Put q r.start (packet_of_request r)) (system old)
  pub path : path_of_packet new q ≡ r.start ∷ []
  pub packets : packets_in new ≡ packets_in old + 1
  pub apart : Apart q old new

-- the node to which packet q is sent
abbrev pub goes_to : System → ℕ → List ℕ
goes_to σ q = next_nodes (σ.routers (node_in (σ.flights q))) (σ.flights q)

-- packet q moves one hop, if it is under way
pub record Hops (q : ℕ) (old new : Network) : Type 0 where
  pub is : system new ≡ step (Hop q) (system old)
  pub path : path_of_packet new q ≡ path_of_packet old q ++ goes_to (system old) q
  pub packets : packets_in new ≡ packets_in old
  pub apart : Apart q old new

-- packet q moves some times, with nothing else happening
pub record Moves (q : ℕ) (old new : Network) : Type 0 where
  pub hop_count : ℕ
  pub is : system new ≡ run (hops q hop_count) (system old)
  pub packets : packets_in new ≡ packets_in old
  pub apart : Apart q old new

-- THE PROMISE, of a network that any events have led to since a link failed: a packet has arrived whose stations could still be reached
abbrev pub ArrivesAfter : ℕ → (old new : Network) → Type 0
ArrivesAfter q old new =
    (z : theory.Network) (r : LinkId) (σ : System) → Failed z r σ → (es : List Event) → system old ≡ after r σ es →
    (d u c : ℕ) (ss : List Segment) → Deliverable (without r z) (system old) q d u c ss →
    (k : ℕ) × (system new ≡ run (hops q k) (system old)) × Brought z r (system old) q d k ss

-- and where no failure is known
abbrev pub ArrivesCalm : ℕ → (old new : Network) → Type 0
ArrivesCalm q old new =
    (z : theory.Network) → Lawful z → Calm z (system old) →
    (d u c : ℕ) (ss : List Segment) → Deliverable z (system old) q d u c ss →
    Arrived d ((system new).flights q)

-- a packet is put under the next number, and moves some times with nothing else happening
pub record Sends (r : SendRequest) (q : ℕ) (old new : Network) : Type 0 where
  pub next : q ≡ packets_in old
  pub hop_count : ℕ
  pub is : system new ≡ run (hops q hop_count) (step (Put q r.start (packet_of_request r)) (system old))
  pub packets : packets_in new ≡ packets_in old + 1
  pub apart : Apart q old new

-- EVERY PACKET ARRIVES: whatever has happened since a link failed, if its stations can still be reached one after the other
abbrev pub SendsAfter : SendRequest → ℕ → (old new : Network) → Type 0
SendsAfter s q old new =
    let put = step (Put q s.start (packet_of_request s)) (system old) in
    (z : theory.Network) (r : LinkId) (σ : System) → z.n ≤ 64 → Failed z r σ → (es : List Event) → system old ≡ after r σ es →
    s.start < z.n → Reachable (without r z) s.destination s.start (segments_of s.segments) →
    (k : ℕ) × (system new ≡ run (hops q k) put) × Brought z r put q s.destination k (segments_of s.segments)

-- and where no failure is known
abbrev pub SendsCalm : SendRequest → ℕ → (old new : Network) → Type 0
SendsCalm s q old new =
    (z : theory.Network) → z.n ≤ 64 → Lawful z → Calm z (system old) →
    s.start < z.n → Reachable z s.destination s.start (segments_of s.segments) →
    Arrived s.destination ((system new).flights q)
