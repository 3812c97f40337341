use Rattle.std.specs.Prelude.{◌≡◌, ◌⊎◌, ℕ, List, [], ◌∷◌, true, false, Some, is_some, Result, MatchResult}
use Rattle.clap.specs.Words.{IsParsedFrom, Kinds, args_of, first_value, found_of, groups_of}
use Rattle.clap.specs.declared.builder.command.Command.{Command}
use Rattle.clap.specs.declared.builder.command.Command.TheViews.{out-Command as fields_of}
use Rattle.clap.specs.declared.error.kind.ErrorKind.{ErrorKind}
use Rattle.clap.specs.declared.error.kind.ErrorKind.TheVariants.{DisplayHelp, DisplayVersion, OutOfMemory}
use Rattle.clap.specs.declared.parser.matches.ArgMatches.{ArgMatches}
use Rattle.cli.specs.declared.ending.Ending.{Ending}
use Rattle.cli.specs.declared.ending.Ending.TheVariants.{Help, CommandLine, Memory}
use Rattle.cli.specs.declared.program.Program.{Program}

-- the program ends for want of memory
abbrev pub IsForMemory : Ending → Type 0
IsForMemory (Memory _) = Unit {0}
IsForMemory _ = ⊥

-- help or the version was asked for
abbrev pub IsHelp : Ending → Type 0
IsHelp (Help _) = Unit {0}
IsHelp _ = ⊥

-- the command line is bad
abbrev pub IsBadCommandLine : Ending → Type 0
IsBadCommandLine (CommandLine _) = Unit {0}
IsBadCommandLine _ = ⊥

-- how a program ends where clap gives an error of this kind
abbrev pub EndsBy : ErrorKind → Ending → Type 0
EndsBy DisplayHelp ending = IsHelp ending
EndsBy DisplayVersion ending = IsHelp ending
EndsBy OutOfMemory ending = IsForMemory ending
EndsBy _ ending = IsBadCommandLine ending

abbrev pub EndsByOne : Kinds → Ending → Type 0
EndsByOne [] ending = ⊥
EndsByOne (kind ∷ kinds) ending = EndsBy kind ending ⊎ EndsByOne kinds ending

-- there are matches only where clap has no error; else the program ends by one of these kinds, or for want of memory
abbrev pub ParsesUnless : {T : Type 0} → Kinds → Result T Ending → Type 0
ParsesUnless kinds r = MatchResult r (λ _. kinds ≡ []) (λ ending. IsForMemory ending ⊎ EndsByOne kinds ending)

-- a command that no argument was added to
pub record IsBare (c : Command) : Type 0 where
  pub arguments : args_of c ≡ []
  pub groups : groups_of c ≡ []
  pub local : (fields_of c).has_globals ≡ false
  pub strict : (fields_of c).subcommand_negates_reqs ≡ false

-- the help of the command has the program's texts
pub record Shows (p : Program) (c : Command) : Type 0 where
  pub name : (fields_of c).name ≡ p.name
  pub usage : (fields_of c).usage_str ≡ Some p.usage
  pub about : (fields_of c).about ≡ Some p.about
  pub details : (fields_of c).after_help ≡ Some p.details

-- a command line that the command takes has a value for the argument with this name
abbrev pub Requires : Command → List ℕ → Type 0
Requires c name = (m : ArgMatches) → IsParsedFrom c m → is_some (first_value (found_of m) name) ≡ true
