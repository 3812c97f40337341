use Rattle.std.proofs.Common.{sym}
use Rattle.network.proofs.Plays.{arrives_after, arrives_calm, left_falls, no_more, none_yet, once_more}
use Rattle.network.proofs.network.Network.play.Goals as goal

pub loop-self-init : goal.loop-self-init
loop-self-init c = none_yet c.args.number c.args.self.now

pub loop-self-smaller : goal.loop-self-smaller
loop-self-smaller c =
    left_falls c.args.number c.loop-self.self c.hop.new.self c.in_ok-hop.ensures.ok c.loop-self-test.ensures

pub loop-self-preserved : goal.loop-self-preserved
loop-self-preserved c =
    once_more c.args.number c.args.self.now c.loop-self.self c.hop.new.self c.loop-self.invariant
    c.in_ok-hop.ensures.ok

pub returns-in_err-hop-clause-moves : goal.returns-in_err-hop-clause-moves
returns-in_err-hop-clause-moves c =
    no_more c.args.number c.args.self.now c.loop-self.self c.hop.new.self c.loop-self.invariant
    c.in_err-hop.ensures.memory

pub returns-clause-arrives : goal.returns-clause-arrives
returns-clause-arrives c =
    arrives_after c.args.number c.args.self.now c.loop-self.self c.loop-self.invariant (sym c.loop-self-test.ensures)

pub returns-clause-arrives_calm : goal.returns-clause-arrives_calm
returns-clause-arrives_calm c =
    arrives_calm c.args.number c.args.self.now c.loop-self.self c.loop-self.invariant (sym c.loop-self-test.ensures)
