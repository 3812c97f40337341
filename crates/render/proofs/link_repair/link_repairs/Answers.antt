use Rattle.std.proofs.Common.{◌≡◌, ℕ, ◌<◌, Some, ◌∙◌, ap, ap₂, get_or, slice_get, rules, arith}
use Rattle.std.specs.Option.{option_map}
use Rattle.std.proofs.lemmas.Option.{slice_get-get_or}
use Rattle.theory.specs.Repair.{laid}
use Rattle.types.proofs.Arrays.{from_fn_each}
use Rattle.repairs.specs.Entries.{meaning}
use Rattle.repairs.specs.declared.repair.Entry.TheVariants.{Unused}
use Rattle.routes.specs.Routes.{routes_network}
use Rattle.render.specs.LinkRepair.{link_repair_of, of_sender}
use Rattle.render.specs.declared.link_repair.LinkRepair.{LinkRepair}
use Rattle.render.proofs.link_repair.link_repairs.Goals as goal

none : LinkRepair
none = record { end = 0; entry = Unused }

each : (c : goal.After-from_fn) (d : ℕ) → d < 64 → option_map link_repair_of (slice_get c.from_fn.result d) ≡ Some (of_sender c.args.link (meaning (get_or c.row_at-at_a.result d Unused)) (meaning (get_or c.row_at-at_b.result d Unused)))
each c d l =
    let of = λ (j : ℕ). of_sender c.args.link (meaning (get_or c.row_at-at_a.result j Unused)) (meaning (get_or c.row_at-at_b.result j Unused)) in
    let items = c.from_fn.ensures.items in
    ap (option_map link_repair_of) (slice_get-get_or c.from_fn.result d none (omega (arith, items.long))) ∙
    ap Some (from_fn_each _ (λ j y. link_repair_of y ≡ of j) _ c.from_fn.result 0 64 (λ j y q k. search rules) items.each d none (omega arith) (omega arith))

pub returns-clause-nodes : goal.returns-clause-nodes
returns-clause-nodes c =
    let z = routes_network c.args.routes.now in
    λ d l.
    each c d (omega arith) ∙
    (ap₂ (λ x y. Some (of_sender c.args.link x y)) (c.row_at-at_a.ensures.nodes d l) (c.row_at-at_b.ensures.nodes d l) ∙
    ap (λ k. Some (of_sender c.args.link (laid z k.a k.b d) (laid z k.b k.a d))) c.link.view_is)

pub returns-clause-behind : goal.returns-clause-behind
returns-clause-behind c = λ d l m. each c d m ∙ ap₂ (λ x y. Some (of_sender c.args.link x y)) (c.row_at-at_a.ensures.behind d l) (c.row_at-at_b.ensures.behind d l)
