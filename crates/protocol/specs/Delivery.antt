-- What is promised of packets.
use Rattle.std.specs.Prelude.{◌≡◌, ℕ, suc, ◌+◌, ◌*◌, ◌<◌, ◌≤◌, Bool, true, false, ◌&&◌, List, [], ◌∷◌, length, is_some, Some, None, Option, if◌then◌else◌, ◌==◌}
use Rattle.protocol.specs.Failed.{after, Calm, Failed}
use Rattle.protocol.specs.System.{step, run, count_if, moves, System, Flight, NoPacket, UnderWay, Delivered, Dropped, Event, Arrive, Switch, Put, Hop}
use Rattle.protocol.specs.Router.{entry, Router}
use Rattle.protocol.specs.Packet.{known_down}
use Rattle.theory.specs.NextHop.{at_hop}
use Rattle.theory.specs.Distance.{distance}
use Rattle.theory.specs.Network.{without, Network, Lawful, LinkId}
use Rattle.types.specs.Segments.{strip}
use Rattle.types.specs.declared.segment.Segment.{Segment}
use Rattle.types.specs.declared.segment.Segment.TheVariants.{Node, Link}

-- the stations of a packet at u can be reached one after the other, and then d
abbrev pub Reachable : Network → ℕ → ℕ → List Segment → Type 0
Reachable w d u [] = is_some (distance w d u) ≡ true
Reachable w d u (Node x ∷ ss) = (is_some (distance w x u) ≡ true) × Reachable w d x ss
Reachable w d u (Link a b ∷ ss) = (a ≡ u) × (0 < w.cost a b) × Reachable w d b ss

-- so many of its own hops are enough for a packet with k segments among n nodes
abbrev pub enough_hops : ℕ → ℕ → ℕ
enough_hops n k = suc k * (2 * n * n + 4 * n + 1)

-- packet q, which is at u and has spent c, has at most 3 segments and hops enough, and can come to its stations by the links of w
pub record Deliverable (w : Network) (σ : System) (q d u c : ℕ) (ss : List Segment) : Type 0 where
  pub hop_limit : ℕ
  pub at : σ.flights q ≡ UnderWay u c (record { destination = d; hop_limit = hop_limit; segments = ss })
  pub inside : u < w.n
  pub few : length ss ≤ 3
  pub reachable : Reachable w d u ss
  pub enough : enough_hops w.n (length ss) ≤ hop_limit

-- it has arrived, or is under way with at most m segments: it is not dropped
abbrev pub Safe : ℕ → ℕ → Flight → Type 0
Safe d m NoPacket = ⊥
Safe d m (UnderWay u c p) = length p.segments ≤ m
Safe d m (Delivered u c) = u ≡ d
Safe d m (Dropped u c k) = ⊥

abbrev pub Arrived : ℕ → Flight → Type 0
Arrived d x = (c : ℕ) × (x ≡ Delivered d c)

-- EVERY PACKET ARRIVES, with never more than two segments beyond those that it has now:
-- wherever it is at any moment, just put there or under way since before the failure, and whatever happens then
abbrev pub Delivery : Type 0
Delivery =
    (z : Network) (r : LinkId) (σ : System) → Failed z r σ → (es : List Event) (q d u c : ℕ) (ss : List Segment) → Deliverable (without r z) (after r σ es) q d u c ss → (fs : List Event) →
    Safe d (length ss + 2) ((run fs (after r σ es)).flights q) ×
    (enough_hops z.n (length ss) ≤ moves q fs → Arrived d ((run fs (after r σ es)).flights q))

-- and the 65,535 hops of a new packet are more than enough
abbrev pub WithinLimit : Type 0
WithinLimit = (n k : ℕ) → n ≤ 64 → k ≤ 3 → enough_hops n k ≤ 33796

-- the aim at node u of a packet for d, when its own segments are off: none at a link segment, and at its end
abbrev pub aim_at : ℕ → ℕ → List Segment → Option ℕ
aim_at u d [] = if u == d then None else Some d
aim_at u d (Node x ∷ ss) = Some x
aim_at u d (Link a b ∷ ss) = None

-- the router puts a repair on the packet
abbrev pub blocked : Router → Option ℕ → Bool
blocked s aim = at_hop (λ x. at_hop (λ v. known_down s s.me v) (entry s x)) aim

abbrev pub repairs_on : (ℕ → Router) → Flight → Bool
repairs_on f NoPacket = false
repairs_on f (UnderWay u c p) = blocked (f u) (aim_at (f u).me p.destination (strip (f u).me p.segments))
repairs_on f (Delivered u c) = false
repairs_on f (Dropped u c k) = false

abbrev pub repairs_at : ℕ → Event → System → Bool
repairs_at q (Arrive k) σ = false
repairs_at q (Switch u d) σ = false
repairs_at q (Put p u x) σ = false
repairs_at q (Hop p) σ = q == p && repairs_on σ.routers (σ.flights q)

-- how often a repair is put on packet q
unfoldable pub repairs : ℕ → List Event → System → ℕ
repairs q [] σ = 0
repairs q (e ∷ es) σ = count_if (repairs_at q e σ) (repairs q es (step e σ))

-- NO MORE REPAIRS THAN AIMS are put on a packet: one for each of its segments and one for its destination
abbrev pub RepairedOnce : Type 0
RepairedOnce =
    (z : Network) (r : LinkId) (σ : System) → Failed z r σ → (es : List Event) (q d u c : ℕ) (ss : List Segment) → Deliverable (without r z) (after r σ es) q d u c ss → (fs : List Event) →
    repairs q fs (after r σ es) ≤ suc (length ss)

-- where no failure is known, every packet arrives
abbrev pub CalmDelivery : Type 0
CalmDelivery =
    (z : Network) (σ : System) → Lawful z → Calm z σ → (q d u c : ℕ) (ss : List Segment) → Deliverable z σ q d u c ss → (fs : List Event) →
    Safe d (length ss) ((run fs σ).flights q) × (enough_hops z.n (length ss) ≤ moves q fs → Arrived d ((run fs σ).flights q))
