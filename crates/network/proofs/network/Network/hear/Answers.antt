use Rattle.std.proofs.Common.{◌≤◌, length, get_or, set, vec_items, refl, ap, ◌∙◌, length-set, arith}
use Rattle.network.proofs.Placed.{place_heard, placed}
use Rattle.network.proofs.Replies.{heard_outside, hears}
use Rattle.network.proofs.network.Network.hear.Goals as goal
use Rattle.network.specs.Model.{system_of}
use Rattle.router.specs.Model.{model}

pub invariant_of-self : goal.invariant_of-self
invariant_of-self c =
    let net = c.args.self.now in
    let r = c.in-Some.router.now in
    let i = c.in-Some.ensures.item in
    let h = place_heard (model r) (model c.hear.new.self) _ _ c.args.from c.args.message c.hear.result c.hear.ensures in
    let p = placed (vec_items net.routers) (vec_items net.flights) c.index.result r c.hear.new.self i.3.0 i.1 h
    (record { count = net.count; routers = net.routers_in_place; packets = net.packets_in_place }) in
    record { count = p.count; routers_in_place = p.routers; packets_in_place = p.packets }

pub returns-in-Some : goal.returns-in-Some
returns-in-Some c =
    let net = c.args.self.now in
    let rs = vec_items net.routers in
    let r = c.in-Some.router.now in
    let s = c.hear.new.self in
    let i = c.in-Some.ensures.item in
    let e = c.index.ensures in
    let p = hears c.args.node r s net _
    (record {
      below = omega (arith, i.3.0);
      at = i.1 ∙ ap (λ k. get_or rs k r) e;
      is = ap (λ k. system_of (set rs k s) (vec_items c.hear.new.said) (vec_items net.arrivals) (vec_items net.flights)) e;
      nodes = length-set rs c.index.result s;
      arrivals = refl;
      flights = refl;
    }) c.args.from c.args.message c.hear.result c.hear.ensures in
    record { ok = p.ok; accepted = p.accepted; refused = p.refused; unchanged = p.unchanged; arrivals = refl }

pub returns-in-None-clause-refused : goal.returns-in-None-clause-refused
returns-in-None-clause-refused c =
    let rs = vec_items c.args.self.now.routers in
    let i = c.in-None.ensures.item in
    let beyond : length rs ≤ c.args.node = omega (arith, i.3) in
    heard_outside rs c.args.node c.args.from c.args.message beyond
