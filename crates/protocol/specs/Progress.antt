-- What is promised of the end of the switching.
use Rattle.std.specs.Prelude.{◌≡◌, ℕ, ◌+◌, ◌*◌, ◌<◌, ◌≤◌, Bool, true, false, not, ◌&&◌, List, [], ◌∷◌, length, is_some, Some}
use Rattle.protocol.specs.Failed.{after, Calm, Failed}
use Rattle.protocol.specs.System.{nth, step, run, whole, fails, count_if, System, Event, Arrive, Switch, Put, Hop}
use Rattle.protocol.specs.Router.{idle}
use Rattle.protocol.specs.Switching.{may}
use Rattle.theory.specs.Distance.{distance}
use Rattle.theory.specs.Network.{without, Network, Lawful, LinkId}
use Rattle.types.specs.declared.message.Sent.{Sent}

-- no message is under way, and nobody may switch
pub record Quiet (σ : System) : Type 0 where
  pub came : (k : ℕ) (m : Sent) → nth σ.said k ≡ Some m → σ.came k ≡ true
  pub still : (u d : ℕ) → may (σ.routers u) d ≡ false

-- IT ENDS: then every router that had a path to the failed link has switched for all destinations, and has taken the link out
abbrev pub Progress : Type 0
Progress =
    (z : Network) (r : LinkId) (σ : System) (F : Failed z r σ) (es : List Event) → Quiet (after r σ es) → (u : ℕ) → u < z.n → is_some (distance z r.a u) ≡ true →
    (after r σ es).routers u ≡ idle (without r z) (r ∷ F.calm.gone u) u

-- AND AGAIN: where the network was connected, the system is calm then, without the link, and all this holds of the next failure.
-- (Routers that had no path to the failed link do not hear of it, and keep it in their lists.)
abbrev pub CalmAgain : Type 0
CalmAgain =
    (z : Network) (r : LinkId) (σ : System) → Failed z r σ → (es : List Event) → Quiet (after r σ es) → ((u : ℕ) → u < z.n → is_some (distance z r.a u) ≡ true) →
    Lawful (without r z) × Calm (without r z) (after r σ es)

-- at first, when all routers have been given the list
abbrev pub CalmFirst : Type 0
CalmFirst = (z : Network) → Calm z (whole z)

-- an event does something to the routers: a message comes for the first time, or a router switches
abbrev pub changes : Event → System → Bool
changes (Arrive k) σ = is_some (nth σ.said k) && not (σ.came k)
changes (Switch u d) σ = may (σ.routers u) d
changes (Put q u p) σ = false
changes (Hop q) σ = false

-- how many events of a run do
unfoldable pub changing : List Event → System → ℕ
changing [] σ = 0
changing (e ∷ es) σ = count_if (changes e σ) (changing es (step e σ))

-- the routers, the messages, and which of them have come, are as they were
pub record Same (σ τ : System) : Type 0 where
  pub routers : (u : ℕ) → τ.routers u ≡ σ.routers u
  pub said : τ.said ≡ σ.said
  pub came : (k : ℕ) → τ.came k ≡ σ.came k

-- ONLY SO MUCH CHANGES, and all other events change nothing: a message that comes again, a switch that may not be
abbrev pub Bounded : Type 0
Bounded =
    (z : Network) (r : LinkId) (σ : System) → Failed z r σ → (es : List Event) →
    (changing es (fails r σ) ≤ 3 * z.n * z.n + 3 * z.n + length σ.said) ×
    ((e : Event) → changes e (after r σ es) ≡ false → Same (after r σ es) (step e (after r σ es)))

-- SO IT CAN ALWAYS END: from every state some events lead to one in which nothing more happens
abbrev pub CanEnd : Type 0
CanEnd = (z : Network) (r : LinkId) (σ : System) → Failed z r σ → (es : List Event) → (fs : List Event) × Quiet (run fs (after r σ es))
