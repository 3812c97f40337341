use Rattle.std.proofs.Common.{rules, arith}
use Rattle.cli.proofs.Required.{requires_one}
use Rattle.box_.proofs.command.Goals as goal

pub returns : goal.returns
returns c =
    requires_one c.command.result c.arg.result c.help-node.result _ c.arg.ensures c.command.ensures.bare (search rules) (search rules) (search rules)
    (search rules) (omega arith) (omega arith)
