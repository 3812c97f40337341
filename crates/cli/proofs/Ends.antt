use Rattle.std.proofs.Common.{◌⊎◌, [], ◌∷◌, inl, inr, subst}
use Rattle.clap.specs.Words.{HasKind, IsAmong, Kinds, kind_of}
use Rattle.clap.specs.declared.error.Error.{Error}
use Rattle.clap.specs.declared.error.kind.ErrorKind.{ErrorKind}
use Rattle.cli.specs.CommandLine.{EndsBy, EndsByOne, IsForMemory}
use Rattle.cli.specs.declared.ending.Ending.{Ending}

-- a program that ends by a kind ends by one of those that it is among
ends_among : (kind : ErrorKind) (kinds : Kinds) (ending : Ending) → IsAmong kind kinds → EndsBy kind ending → EndsByOne kinds ending
ends_among kind [] ending among ends = among
ends_among kind (x ∷ xs) ending (inl same) ends = inl (subst (λ k. EndsBy k ending) same ends)
ends_among kind (x ∷ xs) ending (inr more) ends = inr (ends_among kind xs ending more ends)

-- and so it does at an error that has one of the kinds
pub ends_by_one : (kinds : Kinds) (e : Error) (ending : Ending) → HasKind kinds e → EndsBy (kind_of e) ending
    → IsForMemory ending ⊎ EndsByOne kinds ending
ends_by_one kinds e ending (inl memory) ends = inl (subst (λ k. EndsBy k ending) memory ends)
ends_by_one kinds e ending (inr among) ends = inr (ends_among _ kinds ending among ends)
