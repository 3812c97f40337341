use Rattle.std.proofs.Common.{◌≡◌, ◌-◌, ◌≤◌, length, drop}
use Rattle.links.specs.Links.{cost_in}
use Rattle.routes.proofs.Costs.{Holds}
use Rattle.routes.proofs.matrix.costs_of.Given as goal

abbrev pub invariant-loop-link : goal.invariant-loop-link
invariant-loop-link l = record {
  size : length l.costs ≡ 4096;
  so_far : length l.yielded ≤ length l.links;
  holds : Holds l.nodes (cost_in (drop (length l.links - length l.yielded) l.links)) l.costs;
}
