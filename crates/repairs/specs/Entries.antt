-- What an entry says, in the theory's words.
use Rattle.theory.specs.Repair as theory
use Rattle.repairs.specs.declared.repair.Entry.{Entry}
use Rattle.repairs.specs.declared.repair.Entry.TheVariants.{Unused, Apart, Via}

abbrev pub meaning : Entry → theory.Laid
meaning Unused = theory.Unused
meaning Apart = theory.Apart
meaning (Via x) = theory.Via x.p x.q
