use Rattle.std.proofs.Common.{ℕ, ◌+◌, ◌*◌, get_or, sym, subst, ap, arith}
use Rattle.routes.proofs.Neighbours.{Below, below_none, below_more, below_kept}
use Rattle.routes.proofs.matrix.linked.Goals.{then-costs-cell-gt0, else-costs-cell-gt0}
use Rattle.routes.proofs.matrix.linked.Goals as goal

pub loop-b-init : goal.loop-b-init
loop-b-init c = below_none (λ b. get_or c.args.costs.now (c.args.a * 64 + b) 0) c.empty-set.result c.empty-set.ensures

pub loop-b-preserved : goal.loop-b-preserved
loop-b-preserved c =
    let f : ℕ → ℕ = λ b. get_or c.args.costs.now (c.args.a * 64 + b) 0 in
    let k = c.loop-b.b in
    let at_cell = ap (λ i. get_or c.args.costs.now i 0) c.cell.ensures in
    elim c.if-costs-cell-gt0.branch [
      | then-costs-cell-gt0 w ↦ subst (Below (k + 1) f) (sym w.set-is) (below_more k f c.loop-b.set w.insert.new.self (omega (arith, c.requires.0)) (omega (arith, at_cell, w.if-costs-cell-gt0.true)) c.loop-b.invariant w.insert.ensures)
      | else-costs-cell-gt0 w ↦ subst (Below (k + 1) f) (sym w.set-is) (below_kept k f c.loop-b.set (omega (arith, at_cell, w.if-costs-cell-gt0.false)) c.loop-b.invariant)
    ]

pub returns : goal.returns
returns c = subst (λ k. Below k (λ b. get_or c.args.costs.now (c.args.a * 64 + b) 0) c.loop-b.set) (omega arith) c.loop-b.invariant
