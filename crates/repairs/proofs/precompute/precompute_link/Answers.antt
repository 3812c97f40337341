use Rattle.std.proofs.Common.{◌≡◌, ◌*◌, ◌+◌, ◌∙◌, arith, rules}
use Rattle.std.proofs.lemmas.List.{length-take, length-drop}
use Rattle.routes.specs.Routes.{routes_network}
use Rattle.routes.proofs.Changes.{routes_lawful}
use Rattle.repairs.proofs.Found.{link_filled}
use Rattle.repairs.proofs.precompute.precompute_link.Goals as goal

pub returns : goal.returns
returns c =
    let r = c.args.routes.now in
    let w = ((routes_lawful r).within c.args.s c.args.f c.requires.link).1 in
    let start : c.row_of.result.start ≡ c.args.f * 64 = search rules in
    let end : c.row_of.result.end ≡ c.args.f * 64 + r.costs.nodes = search rules in
    rw start (link_filled (routes_network r) (routes_lawful r) c.args.s c.args.f _ c.args.table.now c.precompute_row.new.row (omega (arith, r.costs.few)) r.costs.few.1 c.requires.size (c.precompute_row.auto.row ∙ simp (length-take, length-drop) (omega arith)) (omega arith) c.precompute_row.ensures.entries)
