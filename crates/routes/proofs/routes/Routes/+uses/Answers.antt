use Rattle.std.proofs.Common.{arith}
use Rattle.routes.specs.Routes.{routes_network}
use Rattle.routes.proofs.Changes.{routes_lawful}
use Rattle.routes.proofs.Steps.{hop_falls, uses_none, uses_here, uses_on}
use Rattle.routes.proofs.routes.Routes.+uses.Goals as goal

pub returns-in-None : goal.returns-in-None
returns-in-None t c =
    let r = c.args.self.now in
    uses_none (routes_network r) (routes_lawful r) c.args.d c.args.link c.args.a c.in-None.ensures

pub uses-requires : goal.uses-requires
uses-requires t c =
    let r = c.args.self.now in
    omega (arith, hop_falls (routes_network r) (routes_lawful r) c.args.d c.args.a c.in-Some.e c.in-Some.ensures)

pub returns-then-joins : goal.returns-then-joins
returns-then-joins t c =
    let r = c.args.self.now in
    uses_here (routes_network r) (routes_lawful r) c.args.d c.args.link c.args.a c.in-Some.e c.joins.result c.in-Some.ensures c.if-joins.true c.if-joins.ensures

pub returns-else-joins : goal.returns-else-joins
returns-else-joins t c =
    let r = c.args.self.now in
    uses_on (routes_network r) (routes_lawful r) c.args.d c.args.link c.args.a c.in-Some.e c.uses.result c.in-Some.ensures c.uses.ensures c.if-joins.ensures
