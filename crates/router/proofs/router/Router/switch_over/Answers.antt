use Rattle.std.proofs.Common.{◌++◌, vec_items, ap, ◌∙◌}
use Rattle.router.proofs.Marked.{switches_over}
use Rattle.router.proofs.router.Router.switch_over.Goals as goal
use Rattle.router.specs.Model.{model}
use Rattle.router.specs.Switching.{told}

pub returns-clause-ok : goal.returns-clause-ok
returns-clause-ok c =
    let s = model c.args.self.now in
    switches_over s (model c.change_entry.new.self) c.args.destination c.args.link (vec_items c.args.said.now) (vec_items c.say.new.said) c.requires.knows c.requires.may c.in_ok-change_entry.ensures.ok
    (c.say.ensures ∙ (ap (λ x. x ++ told s.me c.args.destination c.args.link c.tells-to.result) c.reserve.ensures.items ∙ ap (λ x. vec_items c.args.said.now ++ x) c.tells-to.ensures))
