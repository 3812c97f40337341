use Rattle.std.proofs.Common.{arith}
use Rattle.network.proofs.Untouched.{all_switched, none_switched, one_more}
use Rattle.network.proofs.network.Network.switch_untouched.Goals as goal

pub loop-destination-init : goal.loop-destination-init
loop-destination-init c = none_switched c.args.node c.args.self.now

pub loop-destination-preserved : goal.loop-destination-preserved
loop-destination-preserved c = one_more c.args.node c.loop-destination.destination c.args.self.now c.loop-destination.self c.switch_if_untouched.new.self c.loop-destination.invariant c.in_ok-switch_if_untouched.ensures.touched c.in_ok-switch_if_untouched.ensures.untouched

pub returns-clause-left : goal.returns-clause-left
returns-clause-left c = all_switched c.args.node c.loop-destination.destination c.args.self.now c.loop-destination.self c.loop-destination.invariant (omega arith)
