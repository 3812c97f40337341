use Rattle.std.proofs.Common.{◌∙◌, ap, refl, ltb, ◌&&◌, arith}
use Rattle.routes.specs.View.{view_network}
use Rattle.routes.proofs.Changes.{view_lawful, view_limited}
use Rattle.routes.proofs.Settled.{stands_none}
use Rattle.routes.proofs.view.View.distances.Goals as goal

pub returns : goal.returns
returns c =
    let s = c.args.self.now in
    c.settle.ensures c.args.d (rw c.index.ensures (stands_none (view_network s) (view_lawful s) (view_limited s) c.args.d c.below.result c.fill.new.self (λ v. c.below.ensures v ∙ ap (λ n. ltb v n && ltb v 64) c.nodes.ensures.value) c.requires.0 (omega arith)
    (λ k h. c.fill.ensures.clones k 0 (omega arith) refl)))
