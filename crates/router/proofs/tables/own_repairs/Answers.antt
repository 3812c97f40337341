use Rattle.std.proofs.Common.{◌∙◌}
use Rattle.router.proofs.OwnTables.{no_link, own_repairs_more, own_repairs_kept}
use Rattle.router.proofs.tables.own_repairs.Goals as goal
use Rattle.router.proofs.tables.own_repairs.Goals.{then-is_some, else-is_some}
use Rattle.routes.specs.Routes.{routes_network}

pub loop-f-preserved : goal.loop-f-preserved
loop-f-preserved c =
    let r = c.args.routes.now in
    let z = routes_network r in
    let l = c.loop-f.table in
    elim c.if-is_some.branch [
      | then-is_some w ↦ rw w.table-is (
        w.precompute_link.auto.table ∙ c.loop-f.invariant.0,
        own_repairs_more z c.args.me c.loop-f.f l w.precompute_link.new.table r.costs.few.1 c.loop-f.invariant.1 w.precompute_link.ensures,
      )
      | else-is_some w ↦ rw w.table-is (c.loop-f.invariant.0, own_repairs_kept z c.args.me c.loop-f.f l c.loop-f.invariant.1 (no_link z c.args.me c.loop-f.f c.link_cost.result c.link_cost.ensures w.if-is_some.ensures))
    ]
