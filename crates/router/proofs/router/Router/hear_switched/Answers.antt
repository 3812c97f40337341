use Rattle.std.proofs.Common.{rules, sym}
use Rattle.router.proofs.Heard.{heard_awaited, heard_in, no_transition, same_node}
use Rattle.router.proofs.router.Router.hear_switched.Goals as goal
use Rattle.router.specs.Model.{model}

pub returns-in-None : goal.returns-in-None
returns-in-None c said =
    let s = model c.args.self.now in
    rw (heard_in s c.args.message.now c.args.from _ c.if-not-has_link.ensures (same_node _ _ c.if-ne.ensures) (sym (no_transition s.transition c.in-None.ensures))) (c.keep.ensures said)

pub returns-in_ok-unwait-in-Some : goal.returns-in_ok-unwait-in-Some
returns-in_ok-unwait-in-Some c =
    heard_awaited (model c.args.self.now) (model c.unwait.new.self) c.args.message.now c.args.from c.in-Some.known c.if-not-has_link.ensures (same_node _ _ c.if-ne.ensures) c.in-Some.ensures c.if-is_same.ensures (search rules) (search rules)
