use Rattle.std.proofs.Common.{vec_items, ◌∙◌, rules, tests}
use Rattle.std.proofs.lemmas.Iterator.{YieldsList-from_slice}
use Rattle.std.proofs.lemmas.Iterator.Search.{any_from_yields_List}
use Rattle.router.proofs.Kept.{early_kept, said_early}
use Rattle.router.proofs.router.Router.came_early.Goals as goal

pub returns : goal.returns
returns c =
    let kept = vec_items c.args.self.now.early in
    any_from_yields_List (said_early c.args.link c.args.destination c.args.from) _ _ c.any.result c.any.ensures.ran (YieldsList-from_slice kept cc) (λ x b q k. search (rules, tests)) ∙
    early_kept c.args.link c.args.destination c.args.from kept
