use Rattle.std.proofs.Common.{◌≡◌, ℕ, ◌&&◌, ltb}
use Rattle.protocol.specs.Hearing.{awaited}
use Rattle.router.proofs.router.Router.awaited_for.Given as goal
use Rattle.router.specs.Model.{model}
use Rattle.types.specs.NodeSets.{has}

abbrev pub invariant-loop-u : goal.invariant-loop-u
invariant-loop-u l = (v : ℕ) → has l.set v ≡ (ltb v l.u && awaited (model l.self) l.link l.destination v)
