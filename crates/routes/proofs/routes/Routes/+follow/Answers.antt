use Rattle.std.proofs.Common.{◌≡◌, List, ℕ, IfOk, subst, vec_items, arith}
use Rattle.routes.specs.Routes.{routes_network}
use Rattle.routes.proofs.Changes.{routes_lawful}
use Rattle.routes.proofs.Steps.{hop_falls, path_none, path_more}
use Rattle.routes.proofs.routes.Routes.+follow.Goals as goal

pub returns-in_default : goal.returns-in_default
returns-in_default t c =
    let r = c.args.self.now in
    path_none (routes_network r) (routes_lawful r) c.args.d c.args.a (vec_items c.args.nodes) c.in_default.ensures

pub follow-requires : goal.follow-requires
follow-requires t c =
    let r = c.args.self.now in
    omega (arith, hop_falls (routes_network r) (routes_lawful r) c.args.d c.args.a c.in-Some.e c.in-Some.ensures)

pub returns : goal.returns
returns t c =
    let r = c.args.self.now in
    let more = path_more (routes_network r) (routes_lawful r) c.args.d c.args.a c.in-Some.e (vec_items c.args.nodes) (vec_items c.push.new.self) c.in-Some.ensures c.in_ok-push.ensures.items in
    subst (λ (ns : List ℕ). IfOk c.follow.result (λ v. vec_items v ≡ ns)) more c.follow.ensures
