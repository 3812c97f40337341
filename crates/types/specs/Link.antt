-- A link by its two ends.
use Rattle.std.specs.Prelude.{ℕ, ◌&&◌, List, ◌∷◌, ◌++◌, Ok, Err, Result, decimal, if◌then◌else◌, ◌==◌, nat_le, nat_lt}
use Rattle.theory.specs.Network.{LinkId}
use Rattle.types.specs.declared.fault.ReadFault.{ReadFault}
use Rattle.types.specs.declared.fault.ReadFault.TheVariants.{NodeOutOfRange, SelfLink}
use Rattle.types.specs.declared.link.Link.{Link}

abbrev pub ends_of : Link → LinkId
ends_of l = record { a = l.a; b = l.b }

-- its ends are below n and differ, or it is refused
abbrev pub check_ends : ℕ → LinkId → Result (Unit {0}) ReadFault
check_ends n l =
    if nat_lt l.a n && nat_lt l.b n then (if l.a == l.b then Err SelfLink else Ok tt) else Err NodeOutOfRange

-- the same link, by its lower node first
abbrev pub lower_first : LinkId → LinkId
lower_first l = if nat_le l.a l.b then l else record { a = l.b; b = l.a }

-- a link as text: its two ends, a hyphen between them
abbrev pub link_name : LinkId → List ℕ
link_name l = decimal l.a ++ (45 ∷ decimal l.b)
