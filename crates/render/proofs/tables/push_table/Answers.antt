use Rattle.std.proofs.Common.{decimal, ◌∙◌, rules, arith}
use Rattle.render.specs.Text.{cell}
use Rattle.render.proofs.Texts.{no_rows, next_row, row_text}
use Rattle.render.proofs.tables.push_table.Goals as goal

pub loop-a-init : goal.loop-a-init
loop-a-init g c = (search rules, λ v h. no_rows _ _ _ _ (search rules))

pub loop-a-preserved : goal.loop-a-preserved
loop-a-preserved g c =
    let next = c.in-Some.ensures.steps in (
      next.0 ∙ c.loop-a.invariant.0,
      λ v h.
          let a = c.in-Some.a in
          next_row c.args.nodes (λ a d. cell (v a d)) c.loop-a.a-iterator.next a _ _ _ _ (c.loop-a.invariant.1 v h)
          (row_text (decimal a) (λ d. cell (v a d)) c.args.nodes _ _ _ _ c.in_ok-write.ensures.bytes (c.in_ok-push_cells.ensures (v a) (λ d r l p. h a d r (omega (arith, next.1.1, c.loop-a.invariant.0)) l (search rules))) c.in_ok-push_str.ensures.bytes) next.1.0 next.1.2,
    )
