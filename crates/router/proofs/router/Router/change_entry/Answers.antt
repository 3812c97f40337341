use Rattle.std.proofs.Common.{sym, ap, ◌∙◌, arith}
use Rattle.std.specs.Option.{option_map}
use Rattle.protocol.specs.Router.{switched_in}
use Rattle.protocol.specs.Switching.{all_below, mark}
use Rattle.router.proofs.Marked.{marked, may_within, switches_more}
use Rattle.router.proofs.router.Router.change_entry.Goals as goal
use Rattle.router.specs.Model.{model}
use Rattle.router.specs.Transition.{transition_of}
use Rattle.types.specs.NodeSets.{has}

pub returns-in-Some-clause-ok : goal.returns-in-Some-clause-ok
returns-in-Some-clause-ok c =
    let r = c.args.self.now in
    let s = model r in
    let d = c.args.destination in
    let t = c.in-Some.transition in
    let is = ap (option_map transition_of) c.in-Some.is in
    switches_more s d (transition_of t) (has c.insert.new.self) is
    (ap (λ o. all_below s.links.n (mark d (switched_in o))) (sym is) ∙ sym c.if-not-last.ensures)
    (marked d (has t.switched) (has c.insert.new.self) (omega (arith, may_within s d c.requires.may, r.routes.costs.few.1)) c.insert.ensures)
