use Rattle.std.proofs.Common.{◌++◌, get_or, take, string_bytes, sym, ap, ◌∙◌, arith}
use Rattle.std.specs.List.{flat_map}
use Rattle.std.proofs.lemmas.List.{take_more, take_all, flat_map_more}
use Rattle.theory.specs.Network.{LinkId}
use Rattle.types.specs.Link.{ends_of}
use Rattle.types.specs.declared.link.Link.{Link}
use Rattle.routes.specs.Routes.{routes_network}
use Rattle.render.specs.Text.{link_row}
use Rattle.render.proofs.link_repair.push_link_repairs.Goals as goal

pub loop-link-preserved : goal.loop-link-preserved
loop-link-preserved c =
    let z = routes_network c.args.routes.now in
    let row = λ (k : Link). link_row z (ends_of k) in
    let i = c.loop-link.link-index in
    let ls = c.args.links.now in
    let item = c.link-item.result in
    let out = string_bytes c.args.out.now in
    c.in_ok-push_link_row.ensures ∙
    (ap (λ (k : LinkId). string_bytes c.loop-link.out ++ link_row z k) c.from.ensures ∙
    (ap (λ (k : Link). string_bytes c.loop-link.out ++ row k) c.link-item.is ∙
    (ap (λ l. l ++ row (get_or ls i item)) c.loop-link.invariant ∙
    (flat_map_more row out (take i ls) (get_or ls i item) ∙ ap (λ l. out ++ flat_map row l) (sym (take_more ls i item c.loop-link-test.true))))))

pub returns : goal.returns
returns c =
    let out = string_bytes c.args.out.now in
    c.loop-link.invariant ∙ ap (λ l. out ++ flat_map (λ k. link_row (routes_network c.args.routes.now) (ends_of k)) l) (take_all c.loop-link.link-index c.args.links.now (omega arith))
