-- How a router that was told something answers, in the protocol's words.
use Rattle.std.specs.Prelude.{◌≡◌, List, ◌++◌, Ok, Err, Result}
use Rattle.protocol.specs.Hearing.{learn, tell, hear_down}
use Rattle.protocol.specs.Router.{Router, Reply, Refused, Stays, Goes}
use Rattle.router.specs.declared.error.RouterError.{RouterError}
use Rattle.router.specs.declared.error.RouterError.TheVariants as error
use Rattle.router.specs.declared.report.Report.{Report}
use Rattle.router.specs.declared.report.Report.TheVariants.{New, Duplicate}
use Rattle.theory.specs.Network.{LinkId}
use Rattle.types.specs.declared.fault.Refusal.{Refusal}
use Rattle.types.specs.declared.message.Sent.{Sent}

-- nothing changes
abbrev pub Unchanged : (old new : Router) (before after : List Sent) → Type 0
Unchanged old new before after = (new ≡ old) × (after ≡ before)

-- accepted: it goes on as the reply says, and what it says is put behind what was said before
abbrev pub Accepted : Reply → (old new : Router) (before after : List Sent) → Type 0
Accepted (Refused k) old new before after = ⊥
Accepted Stays old new before after = Unchanged old new before after
Accepted (Goes s ms) old new before after = (new ≡ s) × (after ≡ before ++ ms)

-- accepted; or refused, or memory is wanting, and nothing changes
abbrev pub Answered : Reply → (old new : Router) (before after : List Sent) → {A : Type 0} → Result A RouterError → Type 0
Answered reply old new before after (Ok _) = Accepted reply old new before after
Answered reply old new before after (Err (error.Refused f)) = (reply ≡ Refused f) × Unchanged old new before after
Answered reply old new before after (Err (error.Memory e)) = Unchanged old new before after

-- what a LinkDown is to a router
abbrev pub Judged : LinkId → Router → Result Report Refusal → Type 0
Judged l s (Ok New) = hear_down l s ≡ Goes (learn l s) (tell s.links l s.me s.links.n)
Judged l s (Ok Duplicate) = hear_down l s ≡ Stays
Judged l s (Err f) = hear_down l s ≡ Refused f
