use Rattle.std.proofs.Common.{arith, rules}
use Rattle.routes.specs.Matrix.{matrix_network}
use Rattle.routes.proofs.Steps.{hop_outside}
use Rattle.routes.proofs.matrix.CostMatrix.next_hop.Goals.{then-dist-self-via-then-dist-self, then-dist-self-via-else-dist-self+then-not-has}
use Rattle.routes.proofs.matrix.CostMatrix.next_hop.Goals as goal

pub returns-then-dist-self-clause-filled : goal.returns-then-dist-self-clause-filled
returns-then-dist-self-clause-filled c d f =
    let m = c.args.self.now in
    hop_outside (matrix_network m) m.lawful d c.args.a (λ h. elim c.then-dist-self.branch [
      | then-dist-self-via-then-dist-self w ↦ omega (arith, f.size)
      | then-dist-self-via-else-dist-self+then-not-has w ↦ search rules
    ])
