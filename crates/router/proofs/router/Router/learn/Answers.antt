use Rattle.std.proofs.Common.{subst, ◌∙◌}
use Rattle.router.proofs.Awaited.{awaited_outside}
use Rattle.router.proofs.Learnt.{learnt}
use Rattle.router.proofs.router.Router.learn.Goals as goal
use Rattle.router.specs.Model.{model}
use Rattle.router.specs.Tables.{OwnHops}
use Rattle.routes.specs.Routes.{routes_network}
use Rattle.theory.specs.Network.{Network}

pub invariant_of-self : goal.invariant_of-self
invariant_of-self c =
    let r = c.args.self.now in
    record {
      within = r.within;
      repaired = r.repaired;
      under_way =
          learnt (routes_network r.routes) r.me (record { link = c.args.link; hops = c.own_hops.result; switched = c.empty.result; pending = c.awaited.result })
          (subst (λ (z : Network). OwnHops z r.me z.n c.own_hops.result) c.changed-surviving.ensures c.own_hops.ensures)
          (λ d u h. c.awaited.ensures d u ∙ awaited_outside (model r) (r.routes.costs.lawful) c.args.link d u h);
    }
