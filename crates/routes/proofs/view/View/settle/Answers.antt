use Rattle.std.proofs.Common.{◌∙◌, arith}
use Rattle.routes.specs.View.{view_network}
use Rattle.routes.proofs.Changes.{view_lawful, view_limited}
use Rattle.routes.proofs.Settled.{stands_more, stands_all}
use Rattle.routes.proofs.Sets.{size_falls, left_in}
use Rattle.routes.proofs.view.View.settle.Goals as goal

pub loop-u-smaller : goal.loop-u-smaller
loop-u-smaller c =
    let n = c.in-Some.ensures in
    size_falls c.loop-u.unsettled c.remove.new.self c.in-Some.u c.remove.ensures (omega (arith, c.loop-u.invariant.0 c.in-Some.u n.in_set, (view_limited c.args.self.now).few)) n.in_set

pub loop-u-preserved : goal.loop-u-preserved
loop-u-preserved c =
    let s = c.args.self.now in
    let z = view_network s in
    let i = c.loop-u.invariant in
    let n = c.in-Some.ensures in (
      λ v h. i.0 v (left_in c.loop-u.unsettled c.remove.new.self c.in-Some.u c.remove.ensures v h),
      c.relax_from.ensures.size ∙ i.1,
      λ d h. stands_more z (view_lawful s) (view_limited s) d c.loop-u.unsettled c.loop-u.dist (i.2 d h) c.in-Some.u n c.remove.new.self c.remove.ensures c.relax_from.new.dist c.relax_from.ensures,
    )

pub returns : goal.returns
returns c d h =
    let s = c.args.self.now in
    stands_all (view_network s) (view_lawful s) (view_limited s) d c.loop-u.unsettled c.loop-u.dist (c.loop-u.invariant.2 d h) c.in_default.ensures
