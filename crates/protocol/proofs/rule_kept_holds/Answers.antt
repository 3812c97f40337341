use Rattle.protocol.proofs.Order.{rule_kept}
use Rattle.protocol.proofs.rule_kept_holds.Goals as goal

pub returns : goal.returns
returns c = rule_kept
