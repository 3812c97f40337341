-- Why a router does not do what it is told.
use Rattle.router.specs.declared.error.RouterError.{RouterError}
use Rattle.router.specs.declared.error.RouterError.TheVariants.{Refused, Memory}

-- memory is wanting
abbrev pub IsMemory : RouterError → Type 0
IsMemory (Refused f) = ⊥
IsMemory (Memory e) = Unit {0}
