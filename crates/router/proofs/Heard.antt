-- Replies to a Switched message, by what the router knows.
use Rattle.std.proofs.Common.{◌≡◌, ℕ, Bool, true, false, not, cond, ◌&&◌, eqb, List, [], Some, None, Option, subst, sym, refl, ap, ◌∙◌, append-nil, arith}
use Rattle.std.specs.Option.{option_map}
use Rattle.std.proofs.lemmas.Bool.{not-false, eqb-true, eq-eqb, and_from, cond-true}
use Rattle.protocol.specs.Hearing.{hear_switched, switched_while}
use Rattle.protocol.specs.Router.{Router, Transition, Reply, Refused, Goes, has_link, known_failure, pending_in, same_link, among}
use Rattle.router.specs.Hearing.{Unwaits}
use Rattle.router.specs.Replies.{Accepted}
use Rattle.theory.specs.Network.{LinkId}
use Rattle.types.specs.declared.fault.Refusal.TheVariants.{NoSuchLink, NotPending}
use Rattle.types.specs.declared.message.Sent.{Sent}
use Rattle.types.specs.declared.message.Switched.{Switched}

-- it goes on, and says nothing
pub goes_quietly : (b : Bool) (t old new : Router) → true ≡ b → new ≡ t → (said : List Sent) → Accepted (cond b (Goes t []) (Refused NotPending)) old new said said
goes_quietly true t old new h e said = (e, sym (append-nil said))
goes_quietly false t old new h e said = let z : ◌≡◌ {A = ℕ} 0 1 = cc in absurd (omega arith)

pub same_node : (w u : ℕ) → false ≡ not (eqb w u) → w ≡ u
same_node w u h = eqb-true w u (not-false (eqb w u) (sym h))

pub heard_in : (s : Router) (m : Switched) (w : ℕ) (o : Option Transition) → true ≡ has_link s.links m.link → w ≡ m.from → o ≡ s.transition → hear_switched w m s ≡ switched_while m s o
heard_in s m w o h e i =
    cond-true (has_link s.links m.link) (cond (eqb w m.from) (switched_while m s s.transition) (Refused NotPending)) (Refused (cond (among m.link s.removed) NotPending NoSuchLink)) (sym h) ∙
    (cond-true (eqb w m.from) (switched_while m s s.transition) (Refused NotPending) (eq-eqb w m.from e) ∙ ap (switched_while m s) (sym i))

-- no link is known to be down
pub no_transition : (o : Option Transition) → None ≡ option_map (λ t. t.link) o → o ≡ None
no_transition None h = refl
no_transition (Some t) h = let z : ◌≡◌ {A = ℕ} 0 1 = cc in absurd (omega arith)

-- a link is
pub record Known (o : Option Transition) (k : LinkId) : Type 0 where
  pub transition : Transition
  pub is : o ≡ Some transition
  pub link : k ≡ transition.link

pub known : (o : Option Transition) (k : LinkId) → Some k ≡ option_map (λ t. t.link) o → Known o k
known None k h = let z : ◌≡◌ {A = ℕ} 0 1 = cc in absurd (omega arith)
known (Some t) k h = record { transition = t; is = refl; link = cc }

-- a message that is waited for
pub heard_awaited : (s new : Router) (m : Switched) (w : ℕ) (k : LinkId) → true ≡ has_link s.links m.link → w ≡ m.from → Some k ≡ known_failure s → true ≡ same_link k m.link →
    pending_in s.transition m.destination m.from ≡ true → Unwaits m.from m.destination s new → (said : List Sent) → Accepted (hear_switched w m s) s new said said
heard_awaited s new m w k h e i j p u said =
    let t = known s.transition k i in
    let r = t.transition in
    let a : (same_link r.link m.link && r.pending m.destination m.from) ≡ true =
    and_from _ _ (ap (λ l. same_link l m.link) (sym t.link) ∙ sym j) (sym (ap (λ o. pending_in o m.destination m.from) t.is) ∙ p) in
    subst (λ x. Accepted x s new said said) (sym (heard_in s m w (Some r) h e (sym t.is) ∙ cond-true _ _ (Refused NotPending) a)) (u r t.is, sym (append-nil said))
