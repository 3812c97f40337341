-- How a router that may switch does it.
use Rattle.std.specs.Prelude.{◌≡◌, ℕ, List, [], ◌∷◌, Some, None, Option}
use Rattle.protocol.specs.Router.{idle, Router, Transition}
use Rattle.protocol.specs.Switching.{after_switch}
use Rattle.theory.specs.Network.{LinkId, without}
use Rattle.types.specs.declared.message.Message.TheVariants.{Switched}
use Rattle.types.specs.declared.message.Sent.{Sent}

-- the message that u has switched for d, if there is anybody to tell
abbrev pub told : ℕ → ℕ → LinkId → Option ℕ → List Sent
told u d l None = []
told u d l (Some v) = record { from = u; to = v; message = Switched (record { from = u; destination = d; link = l }) } ∷ []

-- it has switched for d
abbrev pub Switches : ℕ → (old new : Router) → Type 0
Switches d old new = (t : Transition) → old.transition ≡ Some t → new ≡ after_switch d t old

-- the link is no longer in its list
abbrev pub TakesOut : LinkId → (old new : Router) → Type 0
TakesOut l old new = new ≡ idle (without l old.links) (l ∷ old.removed) old.me
