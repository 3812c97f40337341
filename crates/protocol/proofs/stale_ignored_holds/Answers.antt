use Rattle.protocol.proofs.Links.{stale_ignored}
use Rattle.protocol.proofs.stale_ignored_holds.Goals as goal

pub returns : goal.returns
returns c = stale_ignored
