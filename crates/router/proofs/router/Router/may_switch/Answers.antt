use Rattle.std.proofs.Common.{inr, rules, tests}
use Rattle.router.proofs.Sets.{none_is}
use Rattle.router.proofs.router.Router.may_switch.Goals as goal
use Rattle.router.specs.Model.{model}
use Rattle.router.specs.Transition.{transition_of}

pub returns-then-not-has_switched : goal.returns-then-not-has_switched
returns-then-not-has_switched c =
    let r = c.args.self.now in
    let t = c.in-Some.transition in
    let e = none_is (model r).links.n ((transition_of t).pending c.index.result) c.is_empty.result c.is_empty.ensures (λ u h. (r.under_way t c.in-Some.is).1 c.index.result u (inr h)) in
    search (rules, tests, e)
