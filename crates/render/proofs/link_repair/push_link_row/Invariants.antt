use Rattle.std.proofs.Common.{◌≡◌, ◌++◌, string_bytes}
use Rattle.routes.specs.Routes.{routes_network}
use Rattle.render.specs.LinkRepair.{link_repair}
use Rattle.render.specs.Text.{cells, link_repair_text}
use Rattle.render.proofs.link_repair.push_link_row.Given as goal

abbrev pub invariant-loop-repair : goal.invariant-loop-repair
invariant-loop-repair l = string_bytes l.out ≡ (string_bytes l.initial.out ++ cells (λ d. link_repair_text (link_repair (routes_network l.routes) l.fn.link d)) l.repair-index)
