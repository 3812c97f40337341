use Rattle.std.proofs.Common.{◌≡◌, ◌++◌, take, string_bytes}
use Rattle.std.specs.List.{flat_map}
use Rattle.types.specs.Link.{ends_of}
use Rattle.routes.specs.Routes.{routes_network}
use Rattle.render.specs.Text.{link_row}
use Rattle.render.proofs.link_repair.push_link_repairs.Given as goal

abbrev pub invariant-loop-link : goal.invariant-loop-link
invariant-loop-link l = string_bytes l.out ≡ (string_bytes l.initial.out ++ flat_map (λ k. link_row (routes_network l.routes) (ends_of k)) (take l.link-index l.links))
