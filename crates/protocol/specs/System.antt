-- Routers that exchange messages, with packets under way; and what may happen, in any order.
use Rattle.std.specs.Prelude.{ℕ, zero, suc, ◌+◌, Bool, true, false, ◌||◌, List, [], ◌∷◌, ◌++◌, Some, None, Option, if◌then◌else◌, ◌==◌}
use Rattle.protocol.specs.Hearing.{hear}
use Rattle.protocol.specs.Router.{idle, Router, Reply, Refused, Stays, Goes}
use Rattle.protocol.specs.Packet.{forward, Decision, Deliver, Send, Drop}
use Rattle.protocol.specs.Switching.{switch}
use Rattle.theory.specs.Network.{Network, LinkId}
use Rattle.types.specs.Packet.{Packet}
use Rattle.types.specs.declared.fault.DropReason.{DropReason}
use Rattle.types.specs.declared.message.Message.TheVariants.{LinkDown}
use Rattle.types.specs.declared.message.Sent.{Sent}

-- where a packet is, and what it has spent: the costs of the links that it went over
pub data Flight : Type 0 where
  NoPacket : Flight
  UnderWay : (at spent : ℕ) → Packet → Flight
  Delivered : (at spent : ℕ) → Flight
  Dropped : (at spent : ℕ) → DropReason → Flight

pub record System : Type 0 where
  pub routers : ℕ → Router
  -- all messages that were ever sent, the oldest first: each may arrive at any time after, and any number of times
  pub said : List Sent
  -- by its number: it has arrived at least once
  pub came : ℕ → Bool
  -- by its number: a packet
  pub flights : ℕ → Flight

-- a message arrives, by its number; a router switches if it may; a sender puts a packet under a new number; a packet moves one hop
pub data Event : Type 0 where
  Arrive : (message : ℕ) → Event
  Switch : (node dest : ℕ) → Event
  Put : (number node : ℕ) → Packet → Event
  Hop : (number : ℕ) → Event

unfoldable pub nth : List Sent → ℕ → Option Sent
nth [] k = None
nth (m ∷ ms) zero = Some m
nth (m ∷ ms) (suc k) = nth ms k

abbrev pub set_router : ℕ → Router → (ℕ → Router) → ℕ → Router
set_router u s f v = if v == u then s else f v

-- a router goes on, or nothing changes
abbrev pub go_on : System → ℕ → (ℕ → Bool) → Reply → System
go_on σ u came (Refused k) = record σ { came = came }
go_on σ u came Stays = record σ { came = came }
go_on σ u came (Goes s new) = record σ { routers = set_router u s σ.routers; said = σ.said ++ new; came = came }

abbrev pub arrive : System → ℕ → Option Sent → System
arrive σ k None = σ
arrive σ k (Some m) = go_on σ m.to (λ j. (j == k) || σ.came j) (hear (σ.routers m.to) m.from m.message)

abbrev pub decided : Router → ℕ → ℕ → Decision → Flight
decided s u c Deliver = Delivered u c
decided s u c (Send v p) = UnderWay v (c + s.links.cost u v) p
decided s u c (Drop k) = Dropped u c k

abbrev pub moved : (ℕ → Router) → Flight → Flight
moved f NoPacket = NoPacket
moved f (UnderWay u c p) = decided (f u) u c (forward (f u) p)
moved f (Delivered u c) = Delivered u c
moved f (Dropped u c k) = Dropped u c k

abbrev pub put_on : ℕ → Packet → Flight → Flight
put_on u p NoPacket = UnderWay u 0 p
put_on u p (UnderWay v c q) = UnderWay v c q
put_on u p (Delivered v c) = Delivered v c
put_on u p (Dropped v c k) = Dropped v c k

abbrev pub set_flight : ℕ → Flight → (ℕ → Flight) → ℕ → Flight
set_flight q x f p = if p == q then x else f p

abbrev pub step : Event → System → System
step (Arrive k) σ = arrive σ k (nth σ.said k)
step (Switch u d) σ = go_on σ u σ.came (switch (σ.routers u) d)
step (Put q u p) σ = record σ { flights = set_flight q (put_on u p (σ.flights q)) σ.flights }
step (Hop q) σ = record σ { flights = set_flight q (moved σ.routers (σ.flights q)) σ.flights }

unfoldable pub run : List Event → System → System
run [] σ = σ
run (e ∷ es) σ = run es (step e σ)

-- all routers have been given the same list
abbrev pub whole : Network → System
whole z = record { routers = λ u. idle z [] u; said = []; came = λ k. false; flights = λ q. NoPacket }

-- one end of a failed link notices
abbrev pub notices : LinkId → ℕ → System → System
notices l u σ = go_on σ u σ.came (hear (σ.routers u) u (LinkDown l))

-- a link fails, and its two ends know
abbrev pub fails : LinkId → System → System
fails l σ = notices l l.b (notices l l.a σ)

abbrev pub count_if : Bool → ℕ → ℕ
count_if true k = suc k
count_if false k = k

-- how often packet q moves
unfoldable pub moves : ℕ → List Event → ℕ
moves q [] = 0
moves q (Arrive k ∷ es) = moves q es
moves q (Switch u d ∷ es) = moves q es
moves q (Put p u x ∷ es) = moves q es
moves q (Hop p ∷ es) = count_if (q == p) (moves q es)
