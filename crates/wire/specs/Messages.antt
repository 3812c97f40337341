-- The bytes of a message between routers, and how they are read: all its fields, the end.
use Rattle.std.specs.Prelude.{ℕ, ◌-◌, ◌<◌, if◌then◌else◌, ◌&&◌, List, [], ◌∷◌, length, Some, None, Err, Option, Result, not, ◌==◌, nat_lt, slice_index}
use Rattle.types.specs.Link.{lower_first}
use Rattle.types.specs.declared.fault.ReadFault.{ReadFault}
use Rattle.types.specs.declared.fault.ReadFault.TheVariants.{UnknownKind, Truncated, NodeOutOfRange, SelfLink, HigherFirst}
use Rattle.types.specs.declared.message.Message.{Message}
use Rattle.types.specs.declared.message.Message.TheVariants.{LinkDown, Switched}
use Rattle.theory.specs.Network.{LinkId}
use Rattle.wire.specs.declared.error.ReadError.{ReadError}
use Rattle.wire.specs.Cursor.{Front, whole, judged, piece, ended}

-- the same message, its link by the lower node first
abbrev pub ordered : Message → Message
ordered (LinkDown l) = LinkDown (lower_first l)
ordered (Switched m) = Switched (record m { link = lower_first m.link })

-- what is written of a message whose link has its lower node first
abbrev pub bytes_of : Message → List ℕ
bytes_of (LinkDown l) = 3 ∷ (l.a ∷ (l.b ∷ []))
bytes_of (Switched m) = 4 ∷ (m.from ∷ (m.destination ∷ (m.link.a ∷ (m.link.b ∷ []))))

-- what is written of any
abbrev pub message_bytes : Message → List ℕ
message_bytes m = bytes_of (ordered m)

-- which messages are lawful among n nodes: the link's lower node comes first
abbrev pub LinkLawful : ℕ → LinkId → Type 0
LinkLawful n l = (l.a < l.b) × (l.b < n)

abbrev pub MessageLawful : ℕ → Message → Type 0
MessageLawful n (LinkDown l) = LinkLawful n l
MessageLawful n (Switched m) = (m.from < n) × (m.destination < n) × LinkLawful n m.link

-- the message in front: 3 and a link's two nodes; or 4, who has switched, the destination, and a link's two nodes
abbrev pub message_at : List ℕ → Front Message
message_at bs =
    if length bs == 0 then Err Truncated
    else if slice_index bs 0 == 3 then whole 3 bs (LinkDown (record { a = slice_index bs 1; b = slice_index bs 2 }))
    else if slice_index bs 0 == 4 then whole 5 bs (Switched (record {
      from = slice_index bs 1;
      destination = slice_index bs 2;
      link = record { a = slice_index bs 3; b = slice_index bs 4 };
    }))
    else Err UnknownKind

-- why it is refused among n nodes: the lowest number that applies
abbrev pub link_fault : ℕ → LinkId → Option ReadFault
link_fault n l =
    if not (nat_lt l.a n && nat_lt l.b n) then Some NodeOutOfRange
    else if l.a == l.b then Some SelfLink
    else if nat_lt l.b l.a then Some HigherFirst
    else None

abbrev pub message_fault : ℕ → Message → Option ReadFault
message_fault n (LinkDown l) = link_fault n l
message_fault n (Switched m) =
    if not (nat_lt m.from n && nat_lt m.destination n) then Some NodeOutOfRange else link_fault n m.link

-- what is read: the message, or the first fault and the byte at which its piece begins
abbrev pub message_in : ℕ → List ℕ → Result Message ReadError
message_in n bs =
    piece 0 (judged (message_fault n) (message_at bs)) (λ m rest. ended (length bs - length rest) rest m)
