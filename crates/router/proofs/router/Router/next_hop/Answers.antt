use Rattle.std.proofs.Common.{◌≤◌, arith}
use Rattle.router.proofs.KnownDown.{entry_outside}
use Rattle.router.proofs.router.Router.next_hop.Goals as goal
use Rattle.router.specs.Model.{model}

pub returns-then-not-is_below : goal.returns-then-not-is_below
returns-then-not-is_below c =
    let r = c.args.self.now in
    let beyond : (model r).links.n ≤ c.args.aim = grind arith in
    entry_outside (model r) (r.routes.costs.lawful) c.args.aim beyond
