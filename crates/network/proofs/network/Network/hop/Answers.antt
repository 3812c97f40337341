use Rattle.std.proofs.Common.{vec_items, refl, ◌∙◌}
use Rattle.network.proofs.Hops.{at, hop_inside, hops}
use Rattle.network.proofs.Placed.{packets_set}
use Rattle.network.proofs.network.Network.hop.Goals as goal

pub invariant_of-self-2-clause-packets_in_place : goal.invariant_of-self-2-clause-packets_in_place
invariant_of-self-2-clause-packets_in_place c =
    let net = c.args.self.now in
    let rs = vec_items net.routers in
    let fs = vec_items net.flights in
    let q = c.args.number in
    let f = c.in-Some.flight.now in
    let r = c.in-Some-get.router.now in
    let i = c.in-Some.ensures.item in
    let a = at rs c.deref.result.now fs q c.index.result r f net.packets_in_place i.3.0 i.1
    c.deref.ensures.value (c.index.ensures ∙ c.at.ensures) c.in-Some-get.ensures.lookup.1 in
    let h = hop_inside rs fs q r f c.hop.new.self a net.routers_in_place c.hop.result c.hop.ensures.moves c.hop.ensures.memory in
    packets_set rs fs q c.hop.new.self i.3.0 h net.packets_in_place

pub returns : goal.returns
returns c =
    let net = c.args.self.now in
    let q = c.args.number in
    let f = c.in-Some.flight.now in
    let r = c.in-Some-get.router.now in
    let i = c.in-Some.ensures.item in
    let a = at (vec_items net.routers) c.deref.result.now (vec_items net.flights) q c.index.result r f net.packets_in_place
    i.3.0 i.1 c.deref.ensures.value (c.index.ensures ∙ c.at.ensures) c.in-Some-get.ensures.lookup.1 in
    let p = hops q r f c.hop.new.self net _ a (record { is = refl; packets = refl; nodes = refl; over = λ k. refl })
    c.hop.result c.hop.ensures.moves c.hop.ensures.path c.hop.ensures.memory in
    record { ok = p.0; memory = p.1 }
