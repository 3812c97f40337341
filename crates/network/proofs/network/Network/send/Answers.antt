use Rattle.network.proofs.Sending.{sends, sends_after, sends_calm}
use Rattle.network.proofs.network.Network.send.Goals as goal

pub returns-clause-sends : goal.returns-clause-sends
returns-clause-sends c =
    sends c.args.request c.in_ok-number.number c.args.self.now c.put.new.self c.play.new.self
    c.in_ok-number.ensures.ok c.in_ok-play.ensures.moves

pub returns-clause-arrives : goal.returns-clause-arrives
returns-clause-arrives c =
    sends_after c.args.request c.in_ok-number.number c.args.self.now c.put.new.self c.play.new.self
    c.in_ok-number.ensures.ok c.in_ok-play.ensures.arrives

pub returns-clause-arrives_calm : goal.returns-clause-arrives_calm
returns-clause-arrives_calm c =
    sends_calm c.args.request c.in_ok-number.number c.args.self.now c.put.new.self c.play.new.self
    c.in_ok-number.ensures.ok c.in_ok-play.ensures.arrives_calm
