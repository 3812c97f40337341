use Rattle.std.proofs.Common.{get_or, ap, arith}
use Rattle.routes.specs.Routes.{routes_network}
use Rattle.routes.proofs.Changes.{routes_lawful, routes_limited}
use Rattle.routes.proofs.Rows.{read_some}
use Rattle.routes.proofs.routes.Routes.distance.Goals as goal

pub returns-in_default-clause-bound : goal.returns-in_default-clause-bound
returns-in_default-clause-bound c =
    let r = c.args.self.now in
    let p = c.in_ok-place.ensures in
    let e = ap (λ i. get_or r.distances i 0) p.2 in
    omega (arith, e, (read_some (routes_network r) (routes_lawful r) (routes_limited r) c.args.d c.args.a _ (λ x. omega (arith, e, x, c.in_default)) (r.near c.args.d c.args.a (p.0, p.1))).1)
