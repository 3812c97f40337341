use Rattle.routes.specs.Routes.{routes_network}
use Rattle.repairs.specs.Table.{IsRow}
use Rattle.repairs.proofs.precompute.precompute_row.Given as goal

abbrev pub invariant-loop-d : goal.invariant-loop-d
invariant-loop-d l = IsRow (routes_network l.fn.routes) l.fn.s l.fn.f l.d l.row
