-- What a router does with a message.
use Rattle.std.specs.Prelude.{ℕ, zero, suc, Bool, false, not, ◌&&◌, ◌||◌, List, [], ◌∷◌, ◌++◌, Some, None, Option, if◌then◌else◌, ◌==◌, nat_lt}
use Rattle.protocol.specs.Router.{same_link, has_link, among, Router, Transition, Reply, Refused, Stays, Goes}
use Rattle.theory.specs.Repair.{sends}
use Rattle.theory.specs.NextHop.{uses}
use Rattle.theory.specs.Network.{without, Network, LinkId}
use Rattle.types.specs.declared.fault.Refusal.TheVariants.{NoSuchLink, SecondFailure, NotPending}
use Rattle.types.specs.declared.message.Message.{Message}
use Rattle.types.specs.declared.message.Message.TheVariants as message
use Rattle.types.specs.declared.message.Sent.{Sent}
use Rattle.types.specs.declared.message.Switched.{Switched}

-- v, if its own path to d uses the failed link, waits for each u whose next hop is v and whose path uses it too
abbrev pub waits_for : Network → LinkId → ℕ → ℕ → ℕ → Bool
waits_for z l d v u = uses z l d v && (sends z u v d && uses z l d u)

-- u's Switched message for d came early
unfoldable pub came_early : LinkId → ℕ → ℕ → List Switched → Bool
came_early l d u [] = false
came_early l d u (e ∷ es) = (same_link l e.link && (d == e.destination && u == e.from)) || came_early l d u es

-- it would wait for u's Switched message for d, which has not come yet
abbrev pub awaited : Router → LinkId → ℕ → ℕ → Bool
awaited s l d u = waits_for s.links l d s.me u && not (came_early l d u s.early)

-- it learns of the failure, and waits for those that have not said Switched yet
abbrev pub learn : LinkId → Router → Router
learn l s =
    record s {
      transition = Some (record { link = l; switched = λ d. false; pending = awaited s l });
      early = [];
    }

-- and tells each neighbour below k, in rising order, but not over the failed link
unfoldable pub tell : Network → LinkId → ℕ → ℕ → List Sent
tell z l u zero = []
tell z l u (suc k) =
    tell z l u k ++
    (if nat_lt 0 ((without l z).cost u k) then record { from = u; to = k; message = message.LinkDown l } ∷ [] else [])

-- it keeps an early Switched message
abbrev pub keep : Switched → Router → Router
keep m s = record s { early = m ∷ s.early }

-- it no longer waits for u
abbrev pub unwait : ℕ → ℕ → Transition → Transition
unwait u d t = record t { pending = λ e v. t.pending e v && not (e == d && v == u) }

-- LinkDown for a link of its list: the first time it learns, again nothing changes, and another link is one too many
abbrev pub down_in : LinkId → Router → Option Transition → Reply
down_in l s None = Goes (learn l s) (tell s.links l s.me s.links.n)
down_in l s (Some t) = if same_link t.link l then Stays else Refused SecondFailure

-- for one that it has taken out it is a duplicate
abbrev pub hear_down : LinkId → Router → Reply
hear_down l s =
    if has_link s.links l then down_in l s s.transition
    else (if among l s.removed then Stays else Refused NoSuchLink)

-- Switched for a link of its list: kept where it would be waited for, until the failure is known; then it must be waited for
abbrev pub switched_while : Switched → Router → Option Transition → Reply
switched_while m s None = if awaited s m.link m.destination m.from then Goes (keep m s) [] else Refused NotPending
switched_while m s (Some t) =
    if same_link t.link m.link && t.pending m.destination m.from
    then Goes (record s { transition = Some (unwait m.from m.destination t) }) []
    else Refused NotPending

-- it must come from who says it, and not be for a link that it has taken out
abbrev pub hear_switched : ℕ → Switched → Router → Reply
hear_switched w m s =
    if has_link s.links m.link
    then (if w == m.from then switched_while m s s.transition else Refused NotPending)
    else Refused (if among m.link s.removed then NotPending else NoSuchLink)

-- a message comes from the neighbour w; of the faults that apply the lowest is the answer
abbrev pub hear : Router → ℕ → Message → Reply
hear s w (message.LinkDown l) = hear_down l s
hear s w (message.Switched m) = hear_switched w m s
