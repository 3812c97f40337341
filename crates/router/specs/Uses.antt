-- Whether a router's path uses the link that it knows to be down.
use Rattle.std.specs.Prelude.{ℕ, Bool, false, Some, None, Option}
use Rattle.protocol.specs.Router.{known_failure, Router}
use Rattle.theory.specs.Network.{LinkId}
use Rattle.theory.specs.NextHop.{uses}

abbrev pub uses_in : Router → ℕ → Option LinkId → Bool
uses_in s d None = false
uses_in s d (Some l) = uses s.links l d s.me

-- its path to d uses the link that it knows to be down
abbrev pub uses_failed : Router → ℕ → Bool
uses_failed s d = uses_in s d (known_failure s)
