use Rattle.std.proofs.Common.{sym, rules}
use Rattle.std.proofs.lemmas.Bool.{eqb-false}
use Rattle.router.proofs.OneRound.{round_to_node, round_to_destination}
use Rattle.router.proofs.router.Router.round.Goals as goal
use Rattle.router.specs.Model.{model}
use Rattle.types.specs.Packet.{packet_of}

pub returns-in-empty-2 : goal.returns-in-empty-2
returns-in-empty-2 c =
    round_to_destination (model c.args.self.now) (packet_of c.args.packet) (packet_of c.stripped-packet.result) c.destination.result c.destination-aim.result c.towards.result
    c.segments.result.now c.stripped-packet.ensures c.segments.ensures c.in-empty.len_below c.destination.ensures c.destination-aim.ensures (eqb-false _ _ (sym c.if-eq.ensures)) c.towards.ensures

pub returns-in-Node : goal.returns-in-Node
returns-in-Node c = search (rules, round_to_node)
