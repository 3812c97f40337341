use Rattle.std.proofs.Common.{◌≡◌, ℕ, ◌<◌, ◌∷◌, ◌++◌, Some, string_bytes, sym, refl, ap, ◌∙◌, arith, rules}
use Rattle.std.specs.Option.{option_map}
use Rattle.std.proofs.lemmas.List.{length-take, get_or-take}
use Rattle.std.proofs.lemmas.Option.{slice_get-get_or}
use Rattle.std.proofs.lemmas.Result.{on_ok_weaker}
use Rattle.types.specs.Link.{link_name}
use Rattle.routes.specs.Routes.{routes_network}
use Rattle.render.specs.LinkRepair.{link_repair, link_repair_of}
use Rattle.render.specs.Text.{cells, link_repair_text}
use Rattle.render.proofs.Texts.{no_cells, next_cell, row_text}
use Rattle.render.proofs.link_repair.push_link_row.Goals as goal

pub loop-repair-init : goal.loop-repair-init
loop-repair-init c = no_cells _ _ _ refl

pub loop-repair-preserved : goal.loop-repair-preserved
loop-repair-preserved c =
    let z = routes_network c.args.routes.now in
    let i = c.loop-repair.repair-index in
    let n = c.nodes.result in
    let rs = c.link_repairs-repairs.result in
    let l : i < n = omega (arith, length-take n rs) in
    let item = c.repair-item.result in
    let got = slice_get-get_or rs i item (omega (arith, length-take n rs)) ∙ ap Some (sym (c.repair-item.is ∙ get_or-take n rs i item l)) in
    let some : Some (link_repair_of item) ≡ Some (link_repair z c.args.link i) = sym (ap (option_map link_repair_of) got) ∙ c.link_repairs-repairs.ensures.nodes i (omega (arith, l, c.nodes.ensures.value)) in
    let this : link_repair_of item ≡ link_repair z c.args.link i = cc in
    next_cell (λ d. link_repair_text (link_repair z c.args.link d)) i i _ _ _ _ c.loop-repair.invariant (c.in_ok-write-2.ensures.bytes ∙ ap (λ r. string_bytes c.loop-repair.out ++ (32 ∷ link_repair_text r)) this) refl refl

pub returns : goal.returns
returns c =
    let z = routes_network c.args.routes.now in
    let l = c.args.link in
    let row = λ (d : ℕ). link_repair_text (link_repair z l d) in
    let e : c.loop-repair.repair-index ≡ z.n = omega (arith, length-take c.nodes.result c.link_repairs-repairs.result, c.nodes.ensures.value, c.nodes.ensures.bounds) in
    on_ok_weaker c.push_str.result (λ end. row_text (link_name l) row z.n _ _ _ _ c.in_ok-write.ensures.bytes (c.loop-repair.invariant ∙ ap (λ k. string_bytes c.write.new.self ++ cells row k) e) end) (search rules)
