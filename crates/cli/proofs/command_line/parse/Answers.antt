use Rattle.cli.proofs.Ends.{ends_by_one}
use Rattle.cli.proofs.command_line.parse.Goals as goal

pub returns-in-Ok-ending_of-clause-refused : goal.returns-in-Ok-ending_of-clause-refused
returns-in-Ok-ending_of-clause-refused c = λ simple.
    ends_by_one _ c.in-Err.error c.in-Ok-ending_of.ending (c.in-Err.ensures.kinds simple) c.in-Ok-ending_of.ensures
