use Rattle.std.proofs.Common.{get_or, arith}
use Rattle.routes.specs.Routes.{routes_network}
use Rattle.routes.proofs.Changes.{routes_lawful}
use Rattle.repairs.proofs.Found.{row_more}
use Rattle.repairs.proofs.Right.{right}
use Rattle.repairs.specs.declared.repair.Entry.TheVariants.{Unused}
use Rattle.repairs.proofs.precompute.precompute_row.Goals as goal

pub loop-d-preserved : goal.loop-d-preserved
loop-d-preserved c =
    row_more (routes_network c.args.routes.now) c.args.s c.args.f c.loop-d.d c.loop-d.row c.entry.result (omega arith) c.loop-d.invariant c.entry.ensures

pub returns-clause-right : goal.returns-clause-right
returns-clause-right c =
    let r = c.args.routes.now in
    λ d p. right (routes_network r) (routes_lawful r) c.args.s c.args.f d (get_or c.loop-d.row d Unused) (c.loop-d.invariant d (omega arith))
