use Rattle.protocol.proofs.Table.{table}
use Rattle.protocol.proofs.table_holds.Goals as goal

pub returns : goal.returns
returns c = table
