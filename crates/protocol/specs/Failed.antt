-- The setting of the promises: no failure is known, and then a link fails.
use Rattle.std.specs.Prelude.{◌≡◌, ℕ, ◌<◌, ◌≤◌, Bool, true, false, List, Some, None}
use Rattle.protocol.specs.System.{nth, run, fails, System, Event}
use Rattle.protocol.specs.Router.{idle, has_link, has_switched}
use Rattle.theory.specs.Network.{Network, Lawful, LinkId}
use Rattle.types.specs.declared.message.Message.{Message}
use Rattle.types.specs.declared.message.Message.TheVariants.{LinkDown, Switched}
use Rattle.types.specs.declared.message.Sent.{Sent}

-- a message speaks of a link that is not in the list
abbrev pub Stale : Network → Message → Type 0
Stale z (LinkDown l) = has_link z l ≡ false
Stale z (Switched m) = has_link z m.link ≡ false

-- All routers have the list z, and no failure is known.
-- Messages carry no number of their failure, so that an old one about a link of the list would pass for a new one: the promises assume that none is under way from an earlier failure of the same link.
-- Old messages about links that have been taken out may be, and change nothing (StaleIgnored).
pub record Calm (z : Network) (σ : System) : Type 0 where
  -- by router: the links that it has taken out
  pub gone : ℕ → List LinkId
  pub nothing : (u : ℕ) → u < z.n → σ.routers u ≡ idle z (gone u) u
  pub others : (u : ℕ) → z.n ≤ u → (σ.routers u).transition ≡ None
  pub old : (k : ℕ) (m : Sent) → nth σ.said k ≡ Some m → (m.to < z.n) × Stale z m.message
  pub came : (k : ℕ) → σ.came k ≡ true → (m : Sent) × (nth σ.said k ≡ Some m)

-- in a calm system one of the links fails
pub record Failed (z : Network) (r : LinkId) (σ : System) : Type 0 where
  pub lawful : Lawful z
  pub there : 0 < z.cost r.a r.b
  pub calm : Calm z σ

-- the system after the failure of r, and then the events es
abbrev pub after : LinkId → System → List Event → System
after r σ es = run es (fails r σ)

-- by destination and node: which router has switched
abbrev pub Done : Type 0
Done = ℕ → ℕ → Bool

abbrev pub done_in : LinkId → System → Done
done_in r σ = λ d u. has_switched r (σ.routers u) d
