use Rattle.std.proofs.Common.{inl, inr, arith}
use Rattle.routes.specs.Routes.{routes_network}
use Rattle.routes.proofs.Changes.{routes_lawful}
use Rattle.routes.proofs.Steps.{hop_outside}
use Rattle.routes.proofs.routes.Routes.next_hop.Goals as goal

pub returns-in_err-place : goal.returns-in_err-place
returns-in_err-place c =
    let r = c.args.self.now in
    rw c.from_residual.ensures (hop_outside (routes_network r) (routes_lawful r) c.args.d c.args.a
    (λ h. elim c.in_err-place.ensures [ inl x ↦ omega (arith, h.0) | inr x ↦ omega (arith, h.1) ]))
