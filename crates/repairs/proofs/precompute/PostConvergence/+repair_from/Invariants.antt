use Rattle.theory.proofs.HopPaths.{hops}
use Rattle.repairs.specs.Protected.{network_without}
use Rattle.repairs.proofs.precompute.PostConvergence.+repair_from.Given as goal

abbrev pub decreases-repair_from : goal.decreases-repair_from
decreases-repair_from l = hops (network_without l.self.now.link.now) l.self.now.d l.w
