-- Why nothing comes of a frame: its number, and what it is for each error below.
use Rattle.std.specs.Prelude.{ℕ, Ok, Err, Some, None, Option, Result}
use Rattle.router.specs.declared.error.RouterError.{RouterError}
use Rattle.router.specs.declared.error.RouterError.TheVariants as router
use Rattle.types.specs.Faults.{read_number, refusal_number, drop_number}
use Rattle.wire.specs.declared.error.LinksError.{LinksError}
use Rattle.wire.specs.declared.error.LinksError.TheVariants as links
use Rattle.endpoint.specs.declared.error.FrameError.{FrameError}
use Rattle.endpoint.specs.declared.error.FrameError.TheVariants.{Read, Refused, Dropped, Memory}

-- the number of the fault, the refusal, or the reason
abbrev pub frame_number : FrameError → Option ℕ
frame_number (Read fault) = Some (read_number fault)
frame_number (Refused refusal) = Some (refusal_number refusal)
frame_number (Dropped reason) = Some (drop_number reason)
frame_number (Memory _) = None

abbrev pub links_error : LinksError → FrameError
links_error (links.Refused error) = Read error.fault
links_error (links.Memory error) = Memory error

abbrev pub router_error : RouterError → FrameError
router_error (router.Refused refusal) = Refused refusal
router_error (router.Memory error) = Memory error

-- P, unless memory is wanting
abbrev pub UnlessMemory : FrameError → Type 0 → Type 0
UnlessMemory (Read fault) P = P
UnlessMemory (Refused refusal) P = P
UnlessMemory (Dropped reason) P = P
UnlessMemory (Memory _) P = Unit {0}

-- P, where memory is wanting
abbrev pub OnMemory : {A : Type 0} → Result A FrameError → Type 0 → Type 0
OnMemory (Ok _) P = Unit {0}
OnMemory (Err (Read fault)) P = Unit {0}
OnMemory (Err (Refused refusal)) P = Unit {0}
OnMemory (Err (Dropped reason)) P = Unit {0}
OnMemory (Err (Memory _)) P = P
