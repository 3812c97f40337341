use Rattle.std.proofs.Common.{◌+◌, ◌*◌, get_or}
use Rattle.routes.proofs.Neighbours.{Below}
use Rattle.routes.proofs.matrix.linked.Given as goal

abbrev pub invariant-loop-b : goal.invariant-loop-b
invariant-loop-b l = Below l.b (λ b. get_or l.costs (l.a * 64 + b) 0) l.set
