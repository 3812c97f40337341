-- What is said, one message after another.
use Rattle.std.proofs.Common.{◌≡◌, ℕ, ◌+◌, List, ◌++◌, ap, ◌∙◌, append_assoc, add-one}
use Rattle.protocol.specs.Hearing.{tell}
use Rattle.router.specs.Hearing.{tell_one}
use Rattle.theory.specs.Network.{LinkId, Network}
use Rattle.types.specs.declared.message.Sent.{Sent}

-- one neighbour more
pub tell_more : (z : Network) (l : LinkId) (u k : ℕ) (start before after : List Sent) → before ≡ start ++ tell z l u k → after ≡ before ++ tell_one z l u k → after ≡ start ++ tell z l u (k + 1)
unfolding tell
tell_more z l u k start before after e i = rw add-one (i ∙ (ap (λ x. x ++ tell_one z l u k) e ∙ append_assoc start (tell z l u k) (tell_one z l u k)))
