-- The repair of the end of a link that sends over it to a destination.
use Rattle.std.specs.Prelude.{ℕ, Bool, true, false}
use Rattle.theory.specs.Network.{LinkId, Network}
use Rattle.theory.specs.Repair.{Laid, Unused, Apart, Via, laid}
use Rattle.repairs.specs.Entries.{meaning}
use Rattle.render.specs.declared.link_repair.LinkRepair as code

pub record LinkRepair : Type 0 where
  pub end : ℕ
  pub laid : Laid

abbrev pub link_repair_of : code.LinkRepair → LinkRepair
link_repair_of r = record { end = r.end; laid = meaning r.entry }

-- by what both ends have: that of the end that sends over the link, and of the second where neither does
abbrev pub of_sender : LinkId → Laid → Laid → LinkRepair
of_sender l Unused y = record { end = l.b; laid = y }
of_sender l Apart y = record { end = l.a; laid = Apart }
of_sender l (Via p q) y = record { end = l.a; laid = Via p q }

-- for the link l and the destination d
abbrev pub link_repair : Network → LinkId → ℕ → LinkRepair
link_repair z l d = of_sender l (laid z l.a l.b d) (laid z l.b l.a d)

-- does an end send over the link?
abbrev pub is_used : Laid → Bool
is_used Unused = false
is_used Apart = true
is_used (Via p q) = true

-- has it a repair?
abbrev pub is_repaired : Laid → Bool
is_repaired Unused = false
is_repaired Apart = false
is_repaired (Via p q) = true
