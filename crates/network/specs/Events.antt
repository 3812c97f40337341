-- Failures, messages that arrive, and routers that switch.
use Rattle.std.specs.Prelude.{◌≡◌, ℕ, Bool, true, not, ◌&&◌, ◌⊎◌, List, Some, None, Option, filter, length, map, vec_items, if◌then◌else◌, ◌==◌, nat_lt}
use Rattle.std.specs.List.{range_with_len}
use Rattle.network.specs.Arrival.{arrival_in, is_over}
use Rattle.network.specs.Model.{nodes_in, packets_in, path_of_packet, system}
use Rattle.network.specs.declared.network.Network.{Network}
use Rattle.protocol.specs.Hearing.{hear, hear_down}
use Rattle.protocol.specs.Router.{Reply, Refused, Router, Stays, Goes}
use Rattle.protocol.specs.Switching.{may}
use Rattle.protocol.specs.System.{nth, step, System, Event, Arrive, Switch}
use Rattle.router.specs.Uses.{uses_failed}
use Rattle.theory.specs.Network.{LinkId}
use Rattle.types.specs.declared.fault.Refusal.{Refusal}
use Rattle.types.specs.declared.message.Sent.{Sent}

abbrev pub is_message_over : Network → ℕ → Bool
is_message_over net k = is_over (arrival_in (vec_items net.arrivals) k)

-- message k was sent, and may still arrive
abbrev pub is_message_under_way : Network → ℕ → Bool
is_message_under_way net k = nat_lt k (length (vec_items net.said)) && not (is_message_over net k)

-- as many nodes and packets, and packets have been where they had been
pub record Beside (old new : Network) : Type 0 where
  pub nodes : nodes_in new ≡ nodes_in old
  pub packets : packets_in new ≡ packets_in old
  pub paths : (p : ℕ) → path_of_packet new p ≡ path_of_packet old p

-- the network becomes this system, and messages that were under way still are
pub record Becomes (old new : Network) (σ : System) : Type 0 where
  pub is : system new ≡ σ
  pub beside : Beside old new
  pub over : (k : ℕ) → is_message_over new k ≡ is_message_over old k

abbrev pub Unchanged : (old new : Network) → Type 0
Unchanged old new = Becomes old new (system old)

-- message k has arrived, and is the last time it does or not
pub record Arrives (k : ℕ) (last : Bool) (old new : Network) : Type 0 where
  pub is : system new ≡ step (Arrive k) (system old)
  pub beside : Beside old new
  pub over : (j : ℕ) → is_message_over new j ≡ (if j == k then last else is_message_over old j)

abbrev pub IsAccepted : Reply → Type 0
IsAccepted (Refused f) = ⊥
IsAccepted Stays = Unit {0}
IsAccepted (Goes s ms) = Unit {0}

-- what is answered to a message
abbrev pub reply_in : System → Option Sent → Reply
reply_in σ None = Stays
reply_in σ (Some m) = hear (σ.routers m.to) m.from m.message

abbrev pub reply_to : ℕ → System → Reply
reply_to k σ = reply_in σ (nth σ.said k)

-- both ends of a link accept that it has failed
abbrev pub BothEndsAccept : LinkId → System → Type 0
BothEndsAccept l σ = IsAccepted (hear_down l (σ.routers l.a)) × IsAccepted (hear_down l (σ.routers l.b))

-- or one of them refuses that
abbrev pub OneEndRefuses : Refusal → LinkId → System → Type 0
OneEndRefuses f l σ = (hear_down l (σ.routers l.a) ≡ Refused f) ⊎ (hear_down l (σ.routers l.b) ≡ Refused f)

-- the destinations below k to which a router's path does not use the link that it knows to be down
abbrev pub untouched_below : ℕ → Router → List ℕ
untouched_below k s = filter (λ d. not (uses_failed s d)) (range_with_len 0 k)

-- router u switches for each of them, one after another
abbrev pub untouched_switches : (u k : ℕ) → System → List Event
untouched_switches u k σ = map (λ d. Switch u d) (untouched_below k (σ.routers u))

-- where a router may still switch, its path uses the link that it knows to be down
abbrev pub OnlyTouched : Router → Type 0
OnlyTouched s = (d : ℕ) → may s d ≡ true → uses_failed s d ≡ true
