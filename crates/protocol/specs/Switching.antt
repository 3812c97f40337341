-- When a router may switch for a destination, and what it then does.
use Rattle.std.specs.Prelude.{ℕ, zero, suc, Bool, true, false, not, ◌&&◌, ◌||◌, List, [], ◌∷◌, Some, None, Option, if◌then◌else◌, ◌==◌, nat_lt}
use Rattle.protocol.specs.Router.{idle, Router, Transition, Reply, Stays, Goes}
use Rattle.theory.specs.NextHop.{next_hop, uses}
use Rattle.theory.specs.Network.{joins, without, LinkId}
use Rattle.types.specs.declared.message.Message.TheVariants.{Switched}
use Rattle.types.specs.declared.message.Sent.{Sent}

unfoldable pub none_below : ℕ → (ℕ → Bool) → Bool
none_below zero p = true
none_below (suc k) p = not (p k) && none_below k p

unfoldable pub all_below : ℕ → (ℕ → Bool) → Bool
all_below zero p = true
all_below (suc k) p = p k && all_below k p

-- it may switch for d: it knows of a failure, and waits for nobody
abbrev pub may_in : Router → ℕ → Option Transition → Bool
may_in s d None = false
may_in s d (Some t) = nat_lt d s.links.n && (not (t.switched d) && none_below s.links.n (t.pending d))

abbrev pub may : Router → ℕ → Bool
may s d = may_in s d s.transition

abbrev pub mark : ℕ → (ℕ → Bool) → ℕ → Bool
mark d f e = e == d || f e

-- it switches for d; when it has for all destinations it takes the link out, and keeps nothing else
abbrev pub after_switch : ℕ → Transition → Router → Router
after_switch d t s =
    if all_below s.links.n (mark d t.switched)
    then idle (without t.link s.links) (t.link ∷ s.removed) s.me
    else record s { transition = Some (record t { switched = mark d t.switched }) }

abbrev pub say_to : ℕ → ℕ → LinkId → Option ℕ → List Sent
say_to u d l None = []
say_to u d l (Some v) =
    if joins l u v then []
    else record { from = u; to = v; message = Switched (record { from = u; destination = d; link = l }) } ∷ []

-- if its old path used the link, it says so to its old next hop, but not over the failed link
abbrev pub says : ℕ → LinkId → Router → List Sent
says d l s = if uses s.links l d s.me then say_to s.me d l (next_hop s.links d s.me) else []

abbrev pub switch_in : Router → ℕ → Option Transition → Reply
switch_in s d None = Stays
switch_in s d (Some t) = if may_in s d (Some t) then Goes (after_switch d t s) (says d t.link s) else Stays

-- it switches for d if it may
abbrev pub switch : Router → ℕ → Reply
switch s d = switch_in s d s.transition
