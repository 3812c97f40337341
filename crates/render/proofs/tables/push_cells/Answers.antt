use Rattle.std.proofs.Common.{ap, ◌++◌, ◌∷◌, ◌∙◌, string_bytes, arith, rules}
use Rattle.render.specs.Text.{cell}
use Rattle.render.proofs.Texts.{no_cells, next_cell}
use Rattle.render.proofs.tables.push_cells.Goals as goal

pub loop-d-init : goal.loop-d-init
loop-d-init g c = (search rules, λ v h. no_cells _ _ _ (search rules))

pub loop-d-preserved : goal.loop-d-preserved
loop-d-preserved g c =
    let next = c.in-Some.ensures.steps in (
      next.0 ∙ c.loop-d.invariant.0,
      λ v h.
          let this = h c.in-Some.d c.value.result (omega (arith, next.1.1, c.loop-d.invariant.0)) c.value.ensures in
          next_cell (λ d. cell (v d)) c.loop-d.d-iterator.next c.in-Some.d _ _ _ _ (c.loop-d.invariant.1 v h) (c.in_ok-write.ensures.bytes ∙ ap (λ r. string_bytes c.loop-d.out ++ (32 ∷ cell r)) this) next.1.0 next.1.2,
    )
