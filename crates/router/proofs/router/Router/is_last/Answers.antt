use Rattle.std.proofs.Common.{ap, ◌∙◌, refl, rules, tests, arith}
use Rattle.std.proofs.lemmas.Iterator.{YieldsList-from_range}
use Rattle.std.proofs.lemmas.Iterator.Search.{all_from_yields_List}
use Rattle.protocol.specs.Router.{switched_in}
use Rattle.protocol.specs.Switching.{all_below, mark}
use Rattle.router.proofs.InRange.{all_in_range}
use Rattle.router.proofs.router.Router.is_last.Goals as goal
use Rattle.router.specs.Model.{model}

pub returns : goal.returns
returns c =
    let n = c.nodes.result in
    let p = mark c.args.destination (switched_in (model c.args.self.now).transition) in
    all_from_yields_List p _ _ c.all.result c.all.ensures.ran (YieldsList-from_range 0 n n refl (omega arith)) (λ x b q k. search (rules, tests)) ∙
    (all_in_range n p ∙ ap (λ k. all_below k p) c.nodes.ensures.value)
