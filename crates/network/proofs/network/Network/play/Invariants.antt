use Rattle.network.proofs.Plays.{left}
use Rattle.network.proofs.network.Network.play.Given as goal
use Rattle.network.specs.Model.{system}
use Rattle.network.specs.Packets.{Moves}

abbrev pub invariant-loop-self : goal.invariant-loop-self
invariant-loop-self l = Moves l.number l.initial.self l.self

abbrev pub decreases-loop-self : goal.decreases-loop-self
decreases-loop-self l = left ((system l.self).flights l.number)
