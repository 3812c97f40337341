use Rattle.std.proofs.Common.{rules}
use Rattle.router.proofs.OwnTables.{from_fn_hops}
use Rattle.router.proofs.tables.own_hops.Goals as goal
use Rattle.routes.specs.Routes.{routes_network}

pub returns : goal.returns
returns c = from_fn_hops _ (routes_network c.args.routes.now) c.args.me c.args.routes.now.costs.nodes _ c.from_fn.result (λ d y q k. search rules) c.from_fn.ensures.items c.args.routes.now.costs.few.1
