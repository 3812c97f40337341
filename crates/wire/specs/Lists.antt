-- The bytes of a list of links, and how they are read: the header, each link, the end.
use Rattle.std.specs.Prelude.{ℕ, ◌+◌, ◌*◌, ◌/◌, ◌%◌, if◌then◌else◌, ◌&&◌, List, [], ◌∷◌, length, Some, None, Option, Result, not, ◌==◌, nat_le, nat_lt, slice_index}
use Rattle.std.specs.List.{flat_map}
use Rattle.types.specs.declared.fault.ReadFault.{ReadFault}
use Rattle.types.specs.declared.fault.ReadFault.TheVariants.{UnknownKind, NodeCount, NodeOutOfRange, ZeroCost, SelfLink, HigherFirst, NotRising}
use Rattle.types.specs.declared.link.Link.{Link}
use Rattle.links.specs.Links.{precedes, start}
use Rattle.links.specs.Topology.{links_of, network}
use Rattle.links.specs.declared.topology.Topology.{Topology}
use Rattle.wire.specs.declared.error.ReadError.{ReadError}
use Rattle.wire.specs.declared.error.LinksError.{LinksError}
use Rattle.wire.specs.declared.error.LinksError.TheVariants.{Refused, Memory}
use Rattle.wire.specs.Cursor.{read_as, Front, whole, judged, piece, pieces_in}

-- how many nodes there are, and the links
pub record Listing : Type 0 where
  pub nodes : ℕ
  pub links : List Link

abbrev pub listing_of : Topology → Listing
listing_of t = record { nodes = (network t).n; links = links_of t }

-- what is written: 1, the number of nodes, the number of links (2), and each link; the high byte comes first
abbrev pub link_bytes : Link → List ℕ
link_bytes l = l.a ∷ (l.b ∷ (l.cost / 256 ∷ (l.cost % 256 ∷ [])))

abbrev pub list_bytes : Listing → List ℕ
list_bytes x =
    1 ∷ (x.nodes ∷ (length x.links / 256 ∷ (length x.links % 256 ∷ flat_map link_bytes x.links)))

-- the link in front: its two nodes and its cost
abbrev pub link_at : List ℕ → Front Link
link_at bs = whole 4 bs (record {
  a = slice_index bs 0;
  b = slice_index bs 1;
  cost = slice_index bs 2 * 256 + slice_index bs 3;
})

-- the last link before it, if there is one yet
abbrev pub last_link : Option Link → Link
last_link None = start
last_link (Some l) = l

-- why it is refused behind the last one among n nodes: the lowest number that applies
abbrev pub link_fault : ℕ → Option Link → Link → Option ReadFault
link_fault n last l =
    if not (nat_lt l.a n && nat_lt l.b n) then Some NodeOutOfRange
    else if l.cost == 0 then Some ZeroCost
    else if l.a == l.b then Some SelfLink
    else if nat_lt l.b l.a then Some HigherFirst
    else if not (precedes (last_link last) l) then Some NotRising
    else None

-- k links behind the last one, and then the end; of all the bytes, which are m, bs are left
abbrev pub links_in : ℕ → ℕ → Option Link → ℕ → List ℕ → Result (List Link) ReadError
links_in n k last m bs = pieces_in link_at (link_fault n) k last m bs

pub record Header : Type 0 where
  pub kind : ℕ
  pub nodes : ℕ
  pub count : ℕ

abbrev pub header_of : List ℕ → Header
header_of bs = record {
  kind = slice_index bs 0;
  nodes = slice_index bs 1;
  count = slice_index bs 2 * 256 + slice_index bs 3;
}

-- why a header is refused
abbrev pub header_fault : ℕ → ℕ → Option ReadFault
header_fault kind n =
    if not (kind == 1) then Some UnknownKind
    else if not (nat_lt 0 n && nat_le n 64) then Some NodeCount
    else None

abbrev pub with_header : Header → List Link → Listing
with_header h ls = record { nodes = h.nodes; links = ls }

-- what is read: the list, or the first fault and the byte at which its piece begins
abbrev pub list_in : List ℕ → Result Listing ReadError
list_in bs =
    piece 0 (judged (λ h. header_fault h.kind h.nodes) (whole 4 bs (header_of bs)))
    (λ h rest. read_as (with_header h) (links_in h.nodes h.count None (length bs) rest))

-- P of why bytes are refused, if they are
abbrev pub IfRefused : LinksError → (ReadError → Type 0) → Type 0
IfRefused (Refused e) P = P e
IfRefused (Memory _) P = Unit {0}
