-- The parts of hearing a message.
use Rattle.std.specs.Prelude.{◌≡◌, ℕ, Bool, List, [], ◌∷◌, Some, Result, if◌then◌else◌, nat_lt}
use Rattle.protocol.specs.Hearing.{unwait}
use Rattle.protocol.specs.Router.{Reply, Router, Transition}
use Rattle.router.specs.Replies.{Answered}
use Rattle.router.specs.declared.error.RouterError.{RouterError}
use Rattle.theory.specs.Network.{LinkId, Network, without}
use Rattle.types.specs.NodeSets.{has}
use Rattle.types.specs.declared.message.Message.TheVariants.{LinkDown}
use Rattle.types.specs.declared.message.Sent.{Sent}
use Rattle.types.specs.declared.node_set.NodeSet.{NodeSet}

-- it answers, and says nothing
abbrev pub Quietly : Reply → (old new : Router) → {A : Type 0} → Result A RouterError → Type 0
Quietly reply old new r = (said : List Sent) → Answered reply old new said said r

-- it no longer waits for u to switch for d
abbrev pub Unwaits : ℕ → ℕ → (old new : Router) → Type 0
Unwaits u d old new =
    (t : Transition) → old.transition ≡ Some t → new ≡ record old { transition = Some (unwait u d t) }

-- u tells the node k, if it has a link to it but the failed one
abbrev pub tell_one : Network → LinkId → ℕ → ℕ → List Sent
tell_one z l u k =
    if nat_lt 0 ((without l z).cost u k) then record { from = u; to = k; message = LinkDown l } ∷ [] else []

-- the nodes that pass a test
pub record IsSetOf (p : ℕ → Bool) (s : NodeSet) : Type 0 where
  pub each : (u : ℕ) → has s u ≡ p u
