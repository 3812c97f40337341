use Rattle.std.proofs.Common.{arith, rules}
use Rattle.routes.proofs.Costs.{row_costs}
use Rattle.routes.proofs.matrix.CostMatrix.row.Goals as goal

pub returns : goal.returns
returns c =
    let m = c.args.self.now in
    rw c.row_of.ensures (row_costs m.nodes m.costs c.args.a m.few.1 c.requires (search rules))
