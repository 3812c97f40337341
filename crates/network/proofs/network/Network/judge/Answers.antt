use Rattle.std.proofs.Common.{◌≤◌, length, vec_items, refl, inl, inr}
use Rattle.network.proofs.Replies.{heard_outside}
use Rattle.network.proofs.network.Network.judge.Goals as goal
use Rattle.std.proofs.lemmas.Bool.{both_ways, cases_lt}
use Rattle.types.specs.declared.message.Message.TheVariants.{LinkDown}

pub returns-in-None : goal.returns-in-None
returns-in-None c =
    let rs = vec_items c.args.self.now.routers in
    let u = c.args.node in
    let beyond : length rs ≤ u = elim (cases_lt u (length rs)) [ inl l ↦ absurd (both_ways _ refl (c.in-None.ensures.some.1 l)) | inr l ↦ l ] in
    heard_outside rs u u (LinkDown c.args.link) beyond
