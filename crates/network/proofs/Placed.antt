-- Routers stay at their nodes, and packets at nodes.
use Rattle.std.proofs.Common.{◌≡◌, ℕ, ◌<◌, Bool, cond, ◌&&◌, eqb, List, length, get_or, set, Some, None, Ok, Err, OnOk, OnErr, Option, Result, sym, refl, ap, ◌∙◌, subst, arith, length-set}
use Rattle.links.specs.Links.{IsNodeCount}
use Rattle.network.proofs.Sets.{read_at, set_all}
use Rattle.network.specs.Flight.{flight_of, node_in}
use Rattle.network.specs.Places.{outside, router_at, PacketsInPlace, RoutersInPlace}
use Rattle.network.specs.declared.flight.Flight.{Flight}
use Rattle.protocol.specs.Hearing.{awaited, down_in, hear, switched_while}
use Rattle.protocol.specs.Router.{Reply, Refused, Router, Stays, Goes, Transition, among, has_link, same_link}
use Rattle.protocol.specs.Switching.{after_switch, all_below, mark, may_in, says, switch, switch_in}
use Rattle.protocol.specs.System as system
use Rattle.router.specs.Model.{model}
use Rattle.router.specs.Replies.{Accepted, Answered, Unchanged}
use Rattle.router.specs.declared.error.RouterError.{RouterError}
use Rattle.router.specs.declared.error.RouterError.TheVariants as error
use Rattle.router.specs.declared.router.Router as code
use Rattle.std.proofs.lemmas.Bool.{cond_both}
use Rattle.types.specs.declared.message.Message.{Message}
use Rattle.types.specs.declared.message.Message.TheVariants.{LinkDown, Switched}
use Rattle.types.specs.declared.message.Sent.{Sent}

-- at the same node, with as many nodes in its list
abbrev pub SamePlace : (s t : Router) → Type 0
SamePlace s t = (t.me ≡ s.me) × (t.links.n ≡ s.links.n)

-- so is a router that goes on
abbrev StaysPut : Router → Reply → Type 0
StaysPut s (Refused k) = Unit {0}
StaysPut s Stays = Unit {0}
StaysPut s (Goes t ms) = SamePlace s t

module _ (s : Router) where
  either : (b : Bool) (x y : Reply) → StaysPut s x → StaysPut s y → StaysPut s (cond b x y)
  either b x y h k = cond_both b x y (StaysPut s) (λ _. h) (λ _. k)

  switch_put : (d : ℕ) → StaysPut s (switch s d)
  switch_put d = by s.transition
    where
      by : (o : Option Transition) → StaysPut s (switch_in s d o)
      by None = tt
      by (Some t) = either (may_in s d (Some t)) (Goes (after_switch d t s) (says d t.link s)) Stays ended tt
        where
          ended : SamePlace s (after_switch d t s)
          ended = cond_both (all_below s.links.n (mark d t.switched)) _ _ (SamePlace s) (λ _. (refl, refl)) (λ _. (refl, refl))

  hear_put : (w : ℕ) (m : Message) → StaysPut s (hear s w m)
  hear_put w (LinkDown l) = either (has_link s.links l) _ _ (by s.transition) (either (among l s.removed) _ _ tt tt)
    where
      by : (o : Option Transition) → StaysPut s (down_in l s o)
      by None = (refl, refl)
      by (Some t) = either (same_link t.link l) _ _ tt tt
  hear_put w (Switched m) =
      either (has_link s.links m.link) _ _ (either (eqb w m.from) _ _ (by s.transition) tt) tt
    where
      by : (o : Option Transition) → StaysPut s (switched_while m s o)
      by None = either (awaited s m.link m.destination m.from) _ _ (refl, refl) tt
      by (Some t) = either (same_link t.link m.link && t.pending m.destination m.from) _ _ (refl, refl) tt

-- the router s becomes t, and what was said before becomes more
module _ (s t : Router) (before after : List Sent) where
  place_unchanged : Unchanged s t before after → SamePlace s t
  place_unchanged h = (ap (λ (x : Router). x.me) h.0, ap (λ (x : Router). x.links.n) h.0)

  place_accepted : (reply : Reply) → StaysPut s reply → Accepted reply s t before after → SamePlace s t
  place_accepted (Refused k) p h = absurd h
  place_accepted Stays p h = place_unchanged h
  place_accepted (Goes y ms) p h = (ap (λ (x : Router). x.me) h.0 ∙ p.0, ap (λ (x : Router). x.links.n) h.0 ∙ p.1)

  pub place_heard : (w : ℕ) (m : Message) {A : Type 0} (o : Result A RouterError) →
      Answered (hear s w m) s t before after o → SamePlace s t
  place_heard w m (Ok x) h = place_accepted (hear s w m) (hear_put s w m) h
  place_heard w m (Err (error.Refused f)) h = place_unchanged h.1
  place_heard w m (Err (error.Memory e)) h = place_unchanged h

  pub place_switched : (d : ℕ) {A E : Type 0} (o : Result A E) →
      OnOk o (Accepted (switch s d) s t before after) → OnErr o (Unchanged s t before after) → SamePlace s t
  place_switched d (Ok x) h i = place_accepted (switch s d) (switch_put s d) h
  place_switched d (Err e) h i = place_unchanged i

-- what a network keeps
pub record Placed (rs : List code.Router) (fs : List Flight) : Type 0 where
  pub count : IsNodeCount (length rs)
  pub routers : RoutersInPlace rs
  pub packets : PacketsInPlace rs fs

-- a router at its node, in a network of n nodes
abbrev InPlace : ℕ → ℕ → Router → Type 0
InPlace n u s = (s.me ≡ u) × (s.links.n ≡ n)

pub in_place : (rs : List code.Router) (u : ℕ) (r : code.Router) → RoutersInPlace rs → u < length rs →
    r ≡ get_or rs u r → InPlace (length rs) u (model r)
in_place rs u r h l e = subst (InPlace (length rs) u) (read_at model rs outside u r l e) (h u l)

-- another router in its place
pub placed : (rs : List code.Router) (fs : List Flight) (u : ℕ) (r s : code.Router) → u < length rs →
    r ≡ get_or rs u r → SamePlace (model r) (model s) → Placed rs fs → Placed (set rs u s) fs
placed rs fs u r s l e k h =
    let n : length (set rs u s) ≡ length rs = length-set rs u s in
    let i = in_place rs u r h.routers l e in
    record {
      count = subst IsNodeCount (sym n) h.count;
      routers =
          subst (λ m. (v : ℕ) → v < length (set rs u s) → InPlace m v (router_at (set rs u s) v)) (sym n)
          (set_all model rs outside (InPlace (length rs)) u s l (k.0 ∙ i.0, k.1 ∙ i.1) h.routers);
      packets = λ q m. omega (arith, h.packets q m);
    }

-- another packet, at a node
pub packets_set : (rs : List code.Router) (fs : List Flight) (q : ℕ) (f : Flight) → q < length fs →
    node_in (flight_of f) < length rs → PacketsInPlace rs fs → PacketsInPlace rs (set fs q f)
packets_set rs fs q f l p h = set_all flight_of fs system.NoPacket (λ k x. node_in x < length rs) q f l p h
