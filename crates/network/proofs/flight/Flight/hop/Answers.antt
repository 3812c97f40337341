use Rattle.std.proofs.Common.{vec_items, ◌∙◌, arith}
use Rattle.network.proofs.Moving.{bounded_on, path_on, place_on, sent_on}
use Rattle.network.proofs.flight.Flight.hop.Goals as goal
use Rattle.network.specs.Flight.{place_of}
use Rattle.router.specs.Model.{model}
use Rattle.types.specs.Packet.{packet_of}

pub invariant_of-self-in-Sent-clause-bounded : goal.invariant_of-self-in-Sent-clause-bounded
invariant_of-self-in-Sent-clause-bounded c =
    let f = c.args.self.now in
    bounded_on (model c.args.router.now) f.state c.in-UnderWay.packet (packet_of c.in-Sent.packet) c.in-Sent.to f.spent c.from.result c.in-UnderWay.is c.in-Sent.ensures (omega (arith, c.from.ensures, c.link_cost-cost.type_inv)) f.bounded

pub returns-in_ok-push-in-Sent-clause-moves : goal.returns-in_ok-push-in-Sent-clause-moves
returns-in_ok-push-in-Sent-clause-moves c =
    let f = c.args.self.now in
    sent_on (model c.args.router.now) f.state c.in-UnderWay.packet c.in-Sent.packet (place_of f) c.in-Sent.to _ c.at.result f.spent c.from.result c.in-UnderWay.is c.in-Sent.ensures c.at.ensures (c.from.ensures ∙ c.link_cost-cost.ensures)
    (place_on c.in-Sent.to (vec_items f.path) (vec_items c.push.new.self) c.in_ok-push-in-Sent.ensures.items)

pub returns-in_ok-push-in-Sent-clause-path : goal.returns-in_ok-push-in-Sent-clause-path
returns-in_ok-push-in-Sent-clause-path c =
    let f = c.args.self.now in
    path_on (model c.args.router.now) f.state c.in-UnderWay.packet (packet_of c.in-Sent.packet) (place_of f) c.in-Sent.to f.spent (vec_items f.path) (vec_items c.push.new.self) c.in-UnderWay.is c.in-Sent.ensures c.in_ok-push-in-Sent.ensures.items
