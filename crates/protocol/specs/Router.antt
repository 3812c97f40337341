-- A router: its state, and the next hop that it uses.
use Rattle.std.specs.Prelude.{ℕ, Bool, false, not, ◌||◌, List, [], ◌∷◌, Some, None, Option, if◌then◌else◌, nat_lt}
use Rattle.std.specs.Option.{option_map}
use Rattle.theory.specs.NextHop.{next_hop}
use Rattle.theory.specs.Network.{joins, without, Network, LinkId}
use Rattle.types.specs.declared.fault.Refusal.{Refusal}
use Rattle.types.specs.declared.message.Sent.{Sent}
use Rattle.types.specs.declared.message.Switched.{Switched}

-- what exists only from when a router learns that a link has failed until it has switched for all destinations
pub record Transition : Type 0 where
  pub link : LinkId
  -- by destination: it has switched to the new next hop
  pub switched : ℕ → Bool
  -- by destination and neighbour: that neighbour's Switched message is waited for
  pub pending : ℕ → ℕ → Bool

pub record Router : Type 0 where
  pub me : ℕ
  -- its list of links
  pub links : Network
  -- the links that it has taken out since it was given its list
  pub removed : List LinkId
  pub transition : Option Transition
  -- Switched messages that came before it learnt of the failure
  pub early : List Switched

-- refused; or accepted, and nothing changes; or the router goes on as another, and sends messages
pub data Reply : Type 0 where
  Refused : Refusal → Reply
  Stays : Reply
  Goes : Router → List Sent → Reply

-- it knows of no failure, and keeps nothing but the links that it has taken out
abbrev pub idle : Network → List LinkId → ℕ → Router
idle z gone u = record { me = u; links = z; removed = gone; transition = None; early = [] }

abbrev pub same_link : LinkId → LinkId → Bool
same_link l m = joins l m.a m.b

abbrev pub has_link : Network → LinkId → Bool
has_link z l = nat_lt 0 (z.cost l.a l.b)

unfoldable pub among : LinkId → List LinkId → Bool
among l [] = false
among l (m ∷ ms) = same_link m l || among l ms

-- the link that it knows to be down
abbrev pub known_failure : Router → Option LinkId
known_failure s = option_map (λ t. t.link) s.transition

-- it has switched for the destination d, since it knows of the failure
abbrev pub switched_in : Option Transition → ℕ → Bool
switched_in None d = false
switched_in (Some t) d = t.switched d

-- it waits for the neighbour u to switch for d
abbrev pub pending_in : Option Transition → ℕ → ℕ → Bool
pending_in None d u = false
pending_in (Some t) d u = t.pending d u

-- the links by which it forwards to an aim
abbrev pub links_in : Network → ℕ → Option Transition → Network
links_in z aim None = z
links_in z aim (Some t) = if t.switched aim then without t.link z else z

abbrev pub links_for : Router → ℕ → Network
links_for s aim = links_in s.links aim s.transition

-- its present next hop
abbrev pub entry : Router → ℕ → Option ℕ
entry s aim = next_hop (links_for s aim) aim s.me

-- it has switched for d since r failed, whether or not it still switches for others
abbrev pub has_switched : LinkId → Router → ℕ → Bool
has_switched r s d = not (has_link (links_for s d) r)
