use Rattle.std.proofs.Common.{Some, None, refl, sym}
use Rattle.repairs.specs.Protected.{link_network, network_without}
use Rattle.routes.proofs.Changes.{routes_lawful}
use Rattle.repairs.proofs.Found.{laid_found}
use Rattle.repairs.proofs.precompute.Protected.entry.Goals as goal

pub returns-in-Some : goal.returns-in-Some
returns-in-Some c =
    let l = c.args.self.now in
    laid_found (link_network l) (network_without l) (routes_lawful l.routes.now) l.s l.f c.args.d refl (sym c.if-not-sends.ensures) (Some c.in-Some.repair) c.in-Some.ensures

pub returns-in-None : goal.returns-in-None
returns-in-None c =
    let l = c.args.self.now in
    laid_found (link_network l) (network_without l) (routes_lawful l.routes.now) l.s l.f c.args.d refl (sym c.if-not-sends.ensures) None c.in-None.ensures
