use Rattle.std.proofs.Common.{arith}
use Rattle.router.proofs.AllRounds.{rounds_end, rounds_on, left_falls}
use Rattle.router.proofs.router.Router.+forward.Goals as goal
use Rattle.router.specs.Model.{model}
use Rattle.router.specs.Outcomes.{decision_of}
use Rattle.types.specs.Packet.{packet_of}

pub forward-requires : goal.forward-requires
forward-requires t c =
    omega (arith, left_falls c.args.self.now.me (packet_of c.args.packet) (packet_of c.in-Continue.packet) c.in-Continue.ensures.0 c.in-Continue.ensures.1)

pub returns-in-Break : goal.returns-in-Break
returns-in-Break t c = rounds_end (model c.args.self.now) (packet_of c.args.packet) (decision_of c.in-Break.outcome) c.in-Break.ensures

pub returns-in-Continue : goal.returns-in-Continue
returns-in-Continue t c =
    rounds_on (model c.args.self.now) (packet_of c.args.packet) (packet_of c.in-Continue.packet) (decision_of c.forward.result) _ c.in-Continue.ensures.0 c.in-Continue.ensures.2 c.forward.ensures
