use Rattle.std.proofs.Common.{vec_items, ◌∙◌, rules, tests}
use Rattle.std.proofs.lemmas.Iterator.{YieldsList-from_slice}
use Rattle.std.proofs.lemmas.Iterator.Search.{any_from_yields_List}
use Rattle.protocol.specs.Router.{same_link}
use Rattle.router.proofs.Kept.{among_kept}
use Rattle.router.proofs.router.Router.has_removed.Goals as goal
use Rattle.theory.specs.Network.{LinkId}

pub returns : goal.returns
returns c =
    let gone = vec_items c.args.self.now.removed in
    any_from_yields_List (λ (m : LinkId). same_link m c.args.link) _ _ c.any.result c.any.ensures.ran (YieldsList-from_slice gone cc) (λ x b q k. search (rules, tests)) ∙ among_kept c.args.link gone
