-- What is promised of repairs and of the cost of packets while routers switch.
use Rattle.std.specs.Prelude.{◌≡◌, ℕ, ◌+◌, ◌<◌, ◌≤◌, true, false, List, [], ◌∷◌, Some}
use Rattle.protocol.specs.Delivery.{repairs, Deliverable}
use Rattle.protocol.specs.Failed.{after, done_in, Failed}
use Rattle.protocol.specs.System.{step, run, System, Flight, UnderWay, Delivered, Event}
use Rattle.theory.specs.NextHop.{next_hop, uses}
use Rattle.theory.specs.Distance.{distance}
use Rattle.theory.specs.Network.{joins, without, Network, LinkId}
use Rattle.types.specs.Packet.{Packet}
use Rattle.types.specs.declared.segment.Segment.{Segment}
use Rattle.types.specs.declared.segment.Segment.TheVariants.{Node, Link}

-- the aim of a packet for d with these segments
abbrev pub Aims : ℕ → List Segment → ℕ → Type 0
Aims d [] x = d ≡ x
Aims d (Node y ∷ ss) x = y ≡ x
Aims d (Link a b ∷ ss) x = ⊥

-- packet q is at x with these segments
abbrev pub AtAim : ℕ → List Segment → Flight → Type 0
AtAim x ss f = (c : ℕ) × (p : Packet) × (f ≡ UnderWay x c p) × (p.segments ≡ ss)

-- it was not there with them before any of these events
abbrev pub NotYet : ℕ → ℕ → List Segment → List Event → System → Type 0
NotYet q x ss [] σ = Unit {0}
NotYet q x ss (e ∷ es) σ = (AtAim x ss (σ.flights q) → ⊥) × NotYet q x ss es (step e σ)

-- having spent k, packet q spends c to come to its aim x, where it has the segments that it has now; and to be delivered, where it has none
pub record Spends (σ : System) (q x k c : ℕ) (ss : List Segment) (fs : List Event) : Type 0 where
  pub reached : NotYet q x ss fs σ → (k' : ℕ) (p : Packet) → (run fs σ).flights q ≡ UnderWay x k' p → p.segments ≡ ss → k' ≡ k + c
  pub delivered : ss ≡ [] → (v k' : ℕ) → (run fs σ).flights q ≡ Delivered v k' → k' ≡ k + c

-- AT MOST ONE REPAIR is put on a packet before it comes to its aim
abbrev pub OnceForAim : Type 0
OnceForAim =
    (z : Network) (r : LinkId) (σ : System) → Failed z r σ → (es : List Event) (q d x u k : ℕ) (ss : List Segment) → Deliverable (without r z) (after r σ es) q d u k ss → Aims d ss x →
    (fs : List Event) → NotYet q x ss fs (after r σ es) → repairs q fs (after r σ es) ≤ 1

-- THE REPAIR COSTS NO MORE: from the end of the failed link that sent over it, a packet spends the distance that is left, whoever has switched
abbrev pub RepairCost : Type 0
RepairCost =
    (z : Network) (r : LinkId) (σ : System) → Failed z r σ → (es : List Event) (q d x s f k c : ℕ) (ss : List Segment) → Deliverable (without r z) (after r σ es) q d s k ss → Aims d ss x →
    next_hop z x s ≡ Some f → joins r s f ≡ true → distance (without r z) x s ≡ Some c →
    (fs : List Event) → Spends (after r σ es) q x k c ss fs

-- as long as nobody has switched for the aim, it spends what it costs to come to that end, and from there the distance that is left
abbrev pub CostBefore : Type 0
CostBefore =
    (z : Network) (r : LinkId) (σ : System) → Failed z r σ → (es : List Event) (q d x u s f k b c : ℕ) (ss : List Segment) → Deliverable (without r z) (after r σ es) q d u k ss → Aims d ss x →
    uses z r x u ≡ true → next_hop z x s ≡ Some f → joins r s f ≡ true → distance z s u ≡ Some b → distance (without r z) x s ≡ Some c →
    (fs : List Event) → ((w : ℕ) → done_in r (run fs (after r σ es)) x w ≡ false) → Spends (after r σ es) q x k (b + c) ss fs

-- where its path does not use the link it spends the distance, whoever has switched
abbrev pub UntouchedCost : Type 0
UntouchedCost =
    (z : Network) (r : LinkId) (σ : System) → Failed z r σ → (es : List Event) (q d x u k c : ℕ) (ss : List Segment) → Deliverable (without r z) (after r σ es) q d u k ss → Aims d ss x →
    uses z r x u ≡ false → distance z x u ≡ Some c → (fs : List Event) → Spends (after r σ es) q x k c ss fs

-- and once all have switched for the aim whose paths used the link, the distance that is left
abbrev pub CostAfter : Type 0
CostAfter =
    (z : Network) (r : LinkId) (σ : System) → Failed z r σ → (es : List Event) (q d x u k c : ℕ) (ss : List Segment) → Deliverable (without r z) (after r σ es) q d u k ss → Aims d ss x →
    ((w : ℕ) → w < z.n → uses z r x w ≡ true → done_in r (after r σ es) x w ≡ true) → distance (without r z) x u ≡ Some c →
    (fs : List Event) → Spends (after r σ es) q x k c ss fs
