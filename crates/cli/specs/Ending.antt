use Rattle.std.specs.Prelude.{ℕ}
use Rattle.cli.specs.declared.ending.Ending.{Ending}
use Rattle.cli.specs.declared.ending.Ending.TheVariants.{Help, CommandLine}

-- what a program ends with
abbrev pub status_of : Ending → ℕ
status_of (Help _) = 0
status_of (CommandLine _) = 2
status_of _ = 1
