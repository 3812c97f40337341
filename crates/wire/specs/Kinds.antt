-- What a frame holds, by its first byte.
use Rattle.std.specs.Prelude.{ℕ, if◌then◌else◌, List, length, Ok, Result, ◌==◌, slice_index}
use Rattle.types.specs.declared.fault.ReadFault.TheVariants.{UnknownKind, Truncated}
use Rattle.wire.specs.declared.error.ReadError.{ReadError}
use Rattle.wire.specs.Cursor.{refused}
use Rattle.wire.specs.declared.kind.Kind.{Kind}
use Rattle.wire.specs.declared.kind.Kind.TheVariants.{Links, Packet, LinkDown, Switched}

abbrev pub kind_of : ℕ → Result Kind ReadError
kind_of k =
    if k == 1 then Ok Links
    else if k == 2 then Ok Packet
    else if k == 3 then Ok LinkDown
    else if k == 4 then Ok Switched
    else refused UnknownKind 0

abbrev pub kind_in : List ℕ → Result Kind ReadError
kind_in bs = if length bs == 0 then refused Truncated 0 else kind_of (slice_index bs 0)
