use Rattle.std.proofs.Common.{vec_items}
use Rattle.router.proofs.router.Router.hear.Goals as goal

pub returns-in-Switched : goal.returns-in-Switched
returns-in-Switched c = rw c.in-Switched.is (c.hear_switched.ensures (vec_items c.args.said.now))
