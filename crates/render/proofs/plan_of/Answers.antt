use Rattle.std.proofs.Common.{codes, string_bytes, ap, ◌++◌, ◌∙◌}
use Rattle.std.specs.List.{flat_map}
use Rattle.types.specs.Link.{ends_of}
use Rattle.routes.specs.Routes.{routes_network}
use Rattle.render.specs.Text.{tables, link_row, plan}
use Rattle.render.proofs.Texts.{three}
use Rattle.render.proofs.plan_of.Goals as goal

pub returns : goal.returns
returns c =
    let z = routes_network c.args.routes.now in
    three (tables z) (codes "detours\n") (flat_map (λ l. link_row z (ends_of l)) c.args.links.now) (string_bytes c.new-out.result) (string_bytes c.push_tables.new.out) (string_bytes c.push_str.new.self) (string_bytes c.push_link_repairs.new.out)
    c.in_ok-push_tables.ensures c.in_ok-push_str.ensures.bytes c.in_ok-push_link_repairs.ensures ∙
    ap (λ x. x ++ plan z c.args.links.now) c.new-out.ensures.bytes
