use Rattle.std.proofs.Common.{ap, sym, subst, get_or, inl, inr, ◌∙◌, ◌-◌, arith}
use Rattle.std.proofs.lemmas.Bool.{cases_eq}
use Rattle.routes.specs.View.{view_network}
use Rattle.routes.proofs.Changes.{view_lawful, view_limited}
use Rattle.routes.proofs.Hops.{Near, hop_none, hop_some}
use Rattle.routes.proofs.Sets.{size_falls, left_in, same_other}
use Rattle.routes.proofs.view.View.next_hop.Goals.{else-there-here-via-then-there-here+else-here-there, else-there-here-via-else-there-here}
use Rattle.routes.proofs.view.View.next_hop.Goals as goal

pub nearest-smaller : goal.nearest-smaller
nearest-smaller c =
    let t = c.in-Some.ensures in
    size_falls c.nearest.rest c.take_first.new.self c.in-Some.e t.1 t.0.within t.0.in_set

pub nearest-preserved : goal.nearest-preserved
nearest-preserved c =
    let i = c.nearest.invariant in
    let t = c.in-Some.ensures in
    let e = c.in-Some.e in (
      i.0,
      (λ y h. i.1 y (left_in c.nearest.rest c.take_first.new.self e t.1 y h)),
      λ y link n near. elim (cases_eq y e) [
        | inl x ↦
            let here = get_or c.args.dist.now c.index.result 0 in
            let this = subst (λ j. Near ((view_network c.args.self.now).cost c.args.a j) c.args.dist.now here j) x near in
            let there = ap (λ i. get_or c.args.dist.now i 0) c.index-in-Some.ensures in
            elim c.else-there-here.branch [
              | else-there-here-via-then-there-here+else-here-there w ↦ w.if-here-there.false (ap (λ i. here - i) there ∙ (this.cost ∙ sym (w.from.ensures ∙ w.cost.ensures)))
              | else-there-here-via-else-there-here w ↦ omega (arith, this.less, there, w.if-there-here.false)
            ]
        | inr x ↦ i.2 y link (sym (same_other c.nearest.rest c.take_first.new.self e t.1 y x) ∙ n) near
      ],
    )

pub returns-then-here-there : goal.returns-then-here-there
returns-then-here-there c d f =
    let s = c.args.self.now in
    let i = c.nearest.invariant in
    let t = c.in-Some.ensures in
    let nb = c.neighbours-rest.ensures in
    let here = ap (λ i. get_or c.args.dist.now i 0) c.index.ensures in
    let there = ap (λ i. get_or c.args.dist.now i 0) c.index-in-Some.ensures in
    hop_some (view_network s) (view_lawful s) (view_limited s) d c.args.dist.now f c.args.a c.requires.0 c.neighbours-rest.result nb c.in-Some.e (nb c.in-Some.e ∙ i.1 c.in-Some.e t.0.in_set)
    (record { less = omega (arith, here, there, c.if-there-here.true); cost = omega (arith, here, there, c.if-here-there.true, c.from.ensures, c.cost.ensures) })
    (λ y l h k. i.2 y (sym (nb y) ∙ h) (t.0.none_lower y l) (rw c.index.ensures k))

pub returns-in_default : goal.returns-in_default
returns-in_default c d f =
    let s = c.args.self.now in
    let i = c.nearest.invariant in
    let nb = c.neighbours-rest.ensures in
    i.0 ∙ hop_none (view_network s) (view_lawful s) (view_limited s) d c.args.dist.now f c.args.a c.requires.0 c.neighbours-rest.result nb (λ y h k. i.2 y (sym (nb y) ∙ h) (c.in_default.ensures.1 y) (rw c.index.ensures k))
