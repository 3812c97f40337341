use Rattle.std.proofs.Common.{inl, rules}
use Rattle.protocol.specs.Hearing.{awaited}
use Rattle.router.proofs.Awaited.{from_fn_waited, awaited_outside}
use Rattle.router.proofs.router.Router.awaited.Goals as goal
use Rattle.router.specs.Model.{model}

pub returns : goal.returns
returns c =
    let r = c.args.self.now in
    let s = model r in
    from_fn_waited _ (awaited s c.args.link) s.links.n _ c.from_fn.result (λ d y q k. search rules) c.from_fn.ensures.items r.routes.costs.few.1
    (λ d u h. awaited_outside s (r.routes.costs.lawful) c.args.link d u (inl h))
