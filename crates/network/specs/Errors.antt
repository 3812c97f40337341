-- A fact for each way in which a call ends that can be refused, or want memory.
use Rattle.std.specs.Prelude.{Ok, Err, Result}
use Rattle.router.specs.declared.error.RouterError.{RouterError}
use Rattle.router.specs.declared.error.RouterError.TheVariants.{Refused, Memory}
use Rattle.types.specs.declared.fault.Refusal.{Refusal}

-- P of the refusal, if there is one
abbrev pub IfRefused : {A : Type 0} → Result A RouterError → (Refusal → Type 0) → Type 0
IfRefused (Ok _) P = Unit {0}
IfRefused (Err (Refused f)) P = P f
IfRefused (Err (Memory e)) P = Unit {0}

-- P, where memory is wanting
abbrev pub OnMemory : {A : Type 0} → Result A RouterError → Type 0 → Type 0
OnMemory (Ok _) P = Unit {0}
OnMemory (Err (Refused f)) P = Unit {0}
OnMemory (Err (Memory e)) P = P

-- P, where memory is not wanting
abbrev pub UnlessMemory : {A : Type 0} → Result A RouterError → Type 0 → Type 0
UnlessMemory (Ok _) P = P
UnlessMemory (Err (Refused f)) P = P
UnlessMemory (Err (Memory e)) P = Unit {0}
