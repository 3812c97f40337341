-- What is promised of the order in which routers switch, and of old messages.
use Rattle.std.specs.Prelude.{◌≡◌, ℕ, ◌<◌, true, false, List, Some, if◌then◌else◌}
use Rattle.protocol.specs.Hearing.{waits_for, hear}
use Rattle.protocol.specs.Failed.{after, Done, done_in, Failed}
use Rattle.protocol.specs.System.{System, Event}
use Rattle.protocol.specs.Router.{has_link, among, entry, Router, Transition, Refused, Stays}
use Rattle.protocol.specs.Switching.{may}
use Rattle.theory.specs.NextHop.{next_hop, uses}
use Rattle.theory.specs.Network.{joins, without, Network, LinkId}
use Rattle.types.specs.declared.fault.Refusal.TheVariants.{NoSuchLink, NotPending}
use Rattle.types.specs.declared.message.Message.TheVariants.{LinkDown}
use Rattle.types.specs.declared.message.Message.TheVariants as message
use Rattle.types.specs.declared.message.Switched.{Switched}

-- a router switches for a destination only after all have that sent through it over the failed link
abbrev pub InOrder : Network → LinkId → Done → Type 0
InOrder z r f = (d u v : ℕ) → f d v ≡ true → next_hop z d u ≡ Some v → uses z r d u ≡ true → joins r u v ≡ false → f d u ≡ true

-- THE RULE IS KEPT, whatever happens
abbrev pub RuleKept : Type 0
RuleKept = (z : Network) (r : LinkId) (σ : System) → Failed z r σ → (es : List Event) → InOrder z r (done_in r (after r σ es))

-- since a router that knows waits for all of these that have not switched, and for nobody else
abbrev pub Waits : Type 0
Waits =
    (z : Network) (r : LinkId) (σ : System) → Failed z r σ → (es : List Event) (v d u : ℕ) (t : Transition) → ((after r σ es).routers v).transition ≡ Some t →
    (waits_for z r d v u ≡ true → done_in r (after r σ es) d u ≡ false → t.pending d u ≡ true) ×
    (t.pending d u ≡ true → waits_for z r d v u ≡ true)

-- AT ANY TIME a router that knows may switch for a destination to which its old path does not use the link
abbrev pub UntouchedSwitch : Type 0
UntouchedSwitch =
    (z : Network) (r : LinkId) (σ : System) → Failed z r σ → (es : List Event) (u d : ℕ) → d < z.n → (t : Transition) → ((after r σ es).routers u).transition ≡ Some t →
    uses z r d u ≡ false → t.switched d ≡ false → may ((after r σ es).routers u) d ≡ true

-- AFTERWARDS: who has switched for d sends by the surviving network, and who has not by the old one
abbrev pub Afterwards : Type 0
Afterwards =
    (z : Network) (r : LinkId) (σ : System) → Failed z r σ → (es : List Event) (d u : ℕ) → u < z.n →
    entry ((after r σ es).routers u) d ≡ next_hop (if done_in r (after r σ es) d u then without r z else z) d u

-- OLD MESSAGES DO NOTHING: of a link that is not in its list, one that a router has taken out is a repeat, and any other is unknown
pub record Old (s : Router) (l : LinkId) (w : ℕ) : Type 0 where
  pub taken : among l s.removed ≡ true → (hear s w (LinkDown l) ≡ Stays) × ((m : Switched) → m.link ≡ l → hear s w (message.Switched m) ≡ Refused NotPending)
  pub unknown : among l s.removed ≡ false → (hear s w (LinkDown l) ≡ Refused NoSuchLink) × ((m : Switched) → m.link ≡ l → hear s w (message.Switched m) ≡ Refused NoSuchLink)

abbrev pub StaleIgnored : Type 0
StaleIgnored = (s : Router) (l : LinkId) → has_link s.links l ≡ false → (w : ℕ) → Old s l w
