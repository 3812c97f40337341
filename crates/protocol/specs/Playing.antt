-- A packet that moves with nothing else happening, until it ends.
use Rattle.std.specs.Prelude.{◌≡◌, ℕ, zero, suc, ◌+◌, ◌≤◌, Bool, true, false, List, [], ◌∷◌, length, Some}
use Rattle.protocol.specs.Costs.{Aims, NotYet, Spends}
use Rattle.protocol.specs.Delivery.{Safe, Arrived, Deliverable, repairs}
use Rattle.protocol.specs.Failed.{after, Calm, Failed}
use Rattle.protocol.specs.System.{run, System, Flight, NoPacket, UnderWay, Delivered, Dropped, Event, Hop}
use Rattle.theory.specs.Distance.{distance}
use Rattle.theory.specs.NextHop.{next_hop}
use Rattle.theory.specs.Network.{joins, without, Network, Lawful, LinkId}
use Rattle.types.specs.declared.segment.Segment.{Segment}

-- packet q moves k times
unfoldable pub hops : ℕ → ℕ → List Event
hops q zero = []
hops q (suc k) = Hop q ∷ hops q k

-- where it is then
abbrev pub flown : ℕ → ℕ → System → Flight
flown q k σ = (run (hops q k) σ).flights q

abbrev pub is_under_way : Flight → Bool
is_under_way NoPacket = false
is_under_way (UnderWay u c p) = true
is_under_way (Delivered u c) = false
is_under_way (Dropped u c k) = false

-- packet q, which had the segments ss, has been brought from σ to d in k hops, while the link r is down
pub record Brought (z : Network) (r : LinkId) (σ : System) (q d k : ℕ) (ss : List Segment) : Type 0 where
  pub arrived : Arrived d (flown q k σ)
  -- it was never dropped, and never had more than two segments beyond its own
  pub safe : (j : ℕ) → Safe d (length ss + 2) (flown q j σ)
  -- no more repairs were put than it has aims, and from any moment on at most one until it came to its aim then
  pub repaired : repairs q (hops q k) σ ≤ suc (length ss)
  pub once :
      (i j x u c : ℕ) (ts : List Segment) → Deliverable (without r z) (run (hops q i) σ) q d u c ts → Aims d ts x → NotYet q x ts (hops q j) (run (hops q i) σ) →
      repairs q (hops q j) (run (hops q i) σ) ≤ 1
  -- from the end of the failed link that sent over it, it spent the distance that is left to its aim
  pub cost :
      (i j x s f c b : ℕ) (ts : List Segment) → Deliverable (without r z) (run (hops q i) σ) q d s c ts → Aims d ts x →
      next_hop z x s ≡ Some f → joins r s f ≡ true → distance (without r z) x s ≡ Some b → Spends (run (hops q i) σ) q x c b ts (hops q j)

-- PLAYED TO ITS END after a failure, whatever has happened since, a packet has arrived
abbrev pub PlayedOut : Type 0
PlayedOut =
    (z : Network) (r : LinkId) (σ : System) → Failed z r σ → (es : List Event) (q d u c : ℕ) (ss : List Segment) → Deliverable (without r z) (after r σ es) q d u c ss →
    (k : ℕ) → is_under_way (flown q k (after r σ es)) ≡ false → Brought z r (after r σ es) q d k ss

-- and where no failure is known, without more segments than its own
abbrev pub PlayedCalm : Type 0
PlayedCalm =
    (z : Network) (σ : System) → Lawful z → Calm z σ → (q d u c : ℕ) (ss : List Segment) → Deliverable z σ q d u c ss →
    (k : ℕ) → is_under_way (flown q k σ) ≡ false → Arrived d (flown q k σ) × ((j : ℕ) → Safe d (length ss) (flown q j σ))
