use Rattle.router.proofs.AllRounds.{left}
use Rattle.router.proofs.router.Router.+forward.Given as goal
use Rattle.types.specs.Packet.{packet_of}

abbrev pub decreases-forward : goal.decreases-forward
decreases-forward l = left l.self.now.me (packet_of l.packet)
