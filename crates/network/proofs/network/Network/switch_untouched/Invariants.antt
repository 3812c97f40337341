use Rattle.network.proofs.Untouched.{SwitchedBelow}
use Rattle.network.proofs.network.Network.switch_untouched.Given as goal

abbrev pub invariant-loop-destination : goal.invariant-loop-destination
invariant-loop-destination l = SwitchedBelow l.node l.destination l.initial.self l.self
