use Rattle.std.proofs.Common.{Some}
use Rattle.theory.specs.NextHop.{next_hop}
use Rattle.theory.proofs.NextHops.{next_hop_is, same_eq}
use Rattle.repairs.specs.Protected.{link_network}
use Rattle.routes.proofs.Changes.{routes_lawful}
use Rattle.repairs.proofs.Along.{on_first, not_itself}
use Rattle.repairs.proofs.precompute.Protected.repair.Goals as goal

pub repair_from-requires : goal.repair_from-requires
repair_from-requires c =
    let l = c.args.self.now in
    let z = link_network l in
    let g = routes_lawful l.routes.now in
    let hop = same_eq (next_hop z c.args.d l.s) (Some l.f) c.requires.sent in
    record {
      node = (g.within l.s l.f (next_hop_is z c.args.d l.s l.f hop).near.link).0;
      ahead = on_first z g l.s l.f c.args.d;
      reached = not_itself z g l.s l.f c.args.d;
    }
