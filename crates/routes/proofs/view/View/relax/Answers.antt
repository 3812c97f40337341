use Rattle.std.proofs.Common.{get_or}
use Rattle.routes.specs.View.{view_network}
use Rattle.routes.proofs.Changes.{view_lawful}
use Rattle.routes.proofs.Relaxing.{relaxed_more}
use Rattle.routes.proofs.Sets.{size_falls}
use Rattle.routes.proofs.view.View.relax.Goals as goal

pub loop-e-smaller : goal.loop-e-smaller
loop-e-smaller c =
    let t = c.in-Some.ensures in
    size_falls c.loop-e.rest c.take_first.new.self c.in-Some.e t.1 t.0.within t.0.in_set

pub loop-e-preserved : goal.loop-e-preserved
loop-e-preserved c =
    let s = c.args.self.now in
    let z = view_network s in
    let t = c.in-Some.ensures in
    let e = c.in-Some.e in
    let here = get_or c.args.dist.now c.index.result 0 in
    let link = c.requires.others e (c.loop-e.invariant.some e t.0.in_set) in
    rw c.index-in-Some.ensures (relaxed_more z c.args.u here c.args.others c.loop-e.rest c.take_first.new.self c.args.dist.now c.loop-e.dist e c.by_link.result c.requires.size ((view_lawful s).within c.args.u e link).1 t.0.in_set t.1 c.loop-e.invariant
    cc)
