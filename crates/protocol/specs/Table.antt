-- The worked cases as one table: rings in which the link 0-1 fails.
use Rattle.std.specs.Prelude.{◌≡◌, ℕ, Bool, true, false, List, [], ◌∷◌, ◌++◌, map, Some}
use Rattle.std.specs.Option.{option_map_or}
use Rattle.protocol.specs.Failed.{after}
use Rattle.protocol.specs.System.{nth, set_router, step, whole, System, Flight, UnderWay, Delivered, Event, Arrive, Switch, Put, Hop}
use Rattle.protocol.specs.Switching.{may, after_switch}
use Rattle.theory.specs.Worked as theory
use Rattle.types.specs.Packet.{fresh}
use Rattle.types.specs.declared.message.Message.TheVariants.{LinkDown, Switched}
use Rattle.types.specs.declared.message.Sent.{Sent}
use Rattle.types.specs.declared.segment.Segment.TheVariants.{Node, Link}

-- a ring of four after the failure and these events
abbrev pub ring_after : List Event → System
ring_after es = after theory.failing (whole (theory.ring 4)) es

-- 3 hears of the failure, and switches for 1
abbrev pub switched3 : List Event
switched3 = Arrive 0 ∷ (Switch 3 1 ∷ [])

-- a packet for 1 without segments is put at u then
abbrev pub packet_at : ℕ → List Event → System
packet_at u es = step (Put 0 u (fresh 1 [])) (ring_after es)

-- what the rule forbids: u switches for d whether or not it still waits for others
abbrev pub switched_too_soon : ℕ → ℕ → System → System
switched_too_soon u d σ =
    let s = σ.routers u in
    record σ { routers = set_router u (option_map_or (λ t. after_switch d t s) s.transition s) σ.routers }

-- what is precomputed before a failure; and, in the ring of four after these events: whether a node may switch for a
-- destination, what a message says, where a packet for 1 from a node is after each hop, and the ring in which one from 0 goes
-- where 0 switches for 1 before 3 has
pub data Case : Type 0 where
  Precomputed : theory.Case → Case
  May : List Event → (node destination : ℕ) → Bool → Case
  Says : List Event → (number : ℕ) → Sent → Case
  Goes : List Event → (from : ℕ) → List Flight → Case
  Rings : List Flight → Case

-- where packet 0 is, hop by hop
abbrev pub Flies : System → List Flight → Type 0
Flies σ [] = Unit {0}
Flies σ (x ∷ xs) = ((step (Hop 0) σ).flights 0 ≡ x) × Flies (step (Hop 0) σ) xs

abbrev pub Holds : Case → Type 0
Holds (Precomputed c) = theory.Holds c
Holds (May es u d b) = may ((ring_after es).routers u) d ≡ b
Holds (Says es k m) = nth (ring_after es).said k ≡ Some m
Holds (Goes es u xs) = Flies (packet_at u es) xs
Holds (Rings xs) = Flies (switched_too_soon 0 1 (packet_at 0 [])) xs

abbrev pub AllHold : List Case → Type 0
AllHold [] = Unit {0}
AllHold (c ∷ cs) = Holds c × AllHold cs

-- a packet for 1 on its way, with so many hops left
abbrev pub at_node : (at spent hop_limit : ℕ) → Flight
at_node u c h = UnderWay u c (record { destination = 1; hop_limit = h; segments = [] })

-- with a repair's two segments: to 3, and over the link 3-2
abbrev pub repaired_at : (at spent hop_limit : ℕ) → Flight
repaired_at u c h = UnderWay u c (record { destination = 1; hop_limit = h; segments = Node 3 ∷ (Link 3 2 ∷ []) })

abbrev pub cases : List Case
cases =
    -- A to D
    map Precomputed theory.cases ++ (
    -- E: 0 tells 3; for 1, 3 may switch as soon as it knows, and 0 when it has heard that 3 has; 1 may at once
    Says [] 0 (record { from = 0; to = 3; message = LinkDown theory.failing }) ∷ (
    May [] 0 1 false ∷ (
    May [] 1 1 true ∷ (
    May (Arrive 0 ∷ []) 3 1 true ∷ (
    May switched3 0 1 false ∷ (
    Says switched3 4 (record { from = 3; to = 0; message = Switched (record { from = 3; destination = 1; link = theory.failing }) }) ∷ (
    May (Arrive 0 ∷ (Switch 3 1 ∷ (Arrive 4 ∷ []))) 0 1 true ∷ (
    -- F: before anybody has switched, a packet from 3 goes 3, 0, 3, 2, 1, with the segments 3 and 3-2 from 0 to 3
    Goes [] 3 (at_node 0 1 65534 ∷ (repaired_at 3 2 65533 ∷ (at_node 2 3 65532 ∷ (at_node 1 4 65531 ∷ (Delivered 1 4 ∷ []))))) ∷ (
    -- G: when 3 has switched and 0 has not, it goes 3, 2, 1, and from 0 still by the repair
    Goes switched3 3 (at_node 2 1 65534 ∷ (at_node 1 2 65533 ∷ (Delivered 1 2 ∷ []))) ∷ (
    Goes switched3 0 (repaired_at 3 1 65534 ∷ (at_node 2 2 65533 ∷ (at_node 1 3 65532 ∷ (Delivered 1 3 ∷ [])))) ∷ (
    -- where 0 switches before 3 has, a packet from 0 comes back to 0 again and again
    Rings (at_node 3 1 65534 ∷ (at_node 0 2 65533 ∷ (at_node 3 3 65532 ∷ (at_node 0 4 65531 ∷ [])))) ∷ [])))))))))))

abbrev pub Table : Type 0
Table = AllHold cases
