use Rattle.std.proofs.Common.{◌≡◌, length}
use Rattle.router.proofs.tables.own_repairs.Given as goal
use Rattle.router.specs.Tables.{OwnRepairs}
use Rattle.routes.specs.Routes.{routes_network}

abbrev pub invariant-loop-f : goal.invariant-loop-f
invariant-loop-f l = (length l.table ≡ 4096) × OwnRepairs (routes_network l.routes) l.me l.f l.table
