-- A packet that is sent on.
use Rattle.std.proofs.Common.{◌≡◌, ℕ, suc, ◌+◌, ◌-◌, ◌*◌, ◌<◌, ◌≤◌, List, [], ◌∷◌, ◌++◌, length, get_or, sym, ap, ◌∙◌, arith}
use Rattle.network.specs.Flight.{flight_in, next_nodes, node_in, sent_to}
use Rattle.network.specs.FlightState.{hops_left}
use Rattle.network.specs.declared.flight.FlightState.{FlightState}
use Rattle.network.specs.declared.flight.FlightState.TheVariants.{UnderWay}
use Rattle.protocol.proofs.Sending.{forward_sends}
use Rattle.protocol.specs.Packet.{Send, forward}
use Rattle.protocol.specs.Router.{Router}
use Rattle.protocol.specs.System as protocol
use Rattle.std.proofs.lemmas.List.{get_or_push, length_push}
use Rattle.types.specs.Packet.{packet_of, Packet}
use Rattle.types.specs.declared.packet.Packet as code

-- what has been spent, and what may still be, stays within bounds
pub bounded_on : (s : Router) (st : FlightState) (p : code.Packet) (q : Packet) (v c k : ℕ) → st ≡ UnderWay p → Send v q ≡ forward s (packet_of p) → k < 65536 → c + hops_left st * 65535 ≤ 65535 * 65535 →
    c + k + q.hop_limit * 65535 ≤ 65535 * 65535
bounded_on s st p q v c k i e small h =
    let l : suc q.hop_limit ≡ hops_left st = (forward_sends s (packet_of p) v q (sym e)).fewer ∙ sym (ap hops_left i) in
    let j : c + suc q.hop_limit * 65535 ≤ 65535 * 65535 = rw l h in
    omega (arith, j)

-- the last node of its path is where it has gone
pub place_on : (v : ℕ) (old new : List ℕ) → new ≡ old ++ v ∷ [] → get_or new (length new - 1) 0 ≡ v
place_on v old new h = rw h (get_or_push old v 0 _ (omega (arith, length_push old v)))

-- a packet that is at u goes on to v
pub sent_on : (s : Router) (st : FlightState) (p q : code.Packet) (u v w at c k : ℕ) → st ≡ UnderWay p → Send v (packet_of q) ≡ forward s (packet_of p) → at ≡ node_in (flight_in st u c) → k ≡ s.links.cost at v → w ≡ v →
    flight_in (UnderWay q) w (c + k) ≡ protocol.moved (λ _. s) (flight_in st u c)
sent_on s st p q u v w at c k i e o h l =
    let o : at ≡ u = o ∙ ap (λ x. node_in (flight_in x u c)) i in
    let h : k ≡ s.links.cost u v = h ∙ ap (λ x. s.links.cost x v) o in
    rw (i, l) (ap (λ x. protocol.UnderWay v (c + x) (packet_of q)) h ∙ ap (protocol.decided s u c) e)

pub path_on : (s : Router) (st : FlightState) (p : code.Packet) (q : Packet) (u v c : ℕ) (old new : List ℕ) → st ≡ UnderWay p → Send v q ≡ forward s (packet_of p) → new ≡ old ++ v ∷ [] →
    new ≡ old ++ next_nodes s (flight_in st u c)
path_on s st p q u v c old new i e h = rw i (h ∙ ap (λ d. old ++ sent_to d) e)
