use Rattle.std.proofs.Common.{arith, length-set, ◌∙◌}
use Rattle.routes.proofs.Neighbours.{linked_more}
use Rattle.routes.proofs.matrix.neighbours_by.Goals as goal

pub loop-a-preserved : goal.loop-a-preserved
loop-a-preserved c =
    let i = c.loop-a.invariant in
    (length-set _ _ _ ∙ i.0, linked_more c.args.nodes c.args.costs.now c.loop-a.sets c.loop-a.a c.linked.result (omega (arith, i.0, c.requires)) (omega arith) i.1 c.linked.ensures)
