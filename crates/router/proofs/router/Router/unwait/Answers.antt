use Rattle.std.proofs.Common.{not, ◌&&◌, eqb, ap, ◌∙◌, rules}
use Rattle.std.specs.Option.{option_map}
use Rattle.router.proofs.Awaited.{one_less}
use Rattle.router.proofs.Marked.{unwaits}
use Rattle.router.proofs.router.Router.unwait.Goals as goal
use Rattle.router.specs.Model.{model}
use Rattle.router.specs.Transition.{in_set_of, transition_of}

pub returns-in-Some-clause-ok : goal.returns-in-Some-clause-ok
returns-in-Some-clause-ok c =
    let t = c.in-Some.transition in
    unwaits (model c.args.self.now) (transition_of t) c.args.destination c.args.who _ (ap (option_map transition_of) c.in-Some.is)
    (λ e v. one_less t.pending c.index.result c.args.who c.remove.new.self (search rules) c.remove.ensures e v ∙ ap (λ k. in_set_of t.pending e v && not (eqb e k && eqb v c.args.who)) c.index.ensures)
