-- A router of the network that is told something goes on as it replies, and all others stay.
use Rattle.std.proofs.Common.{◌≡◌, ℕ, ◌<◌, ◌≤◌, List, length, map, get_or, set, Ok, Err, OnOk, OnErr, Result, vec_items, sym, refl, ap, ◌∙◌, subst, ap₂, arith}
use mathlib.Core.Path.{fun_ext}
use Rattle.network.proofs.Sets.{read_at, set_at}
use Rattle.network.specs.Arrival.{arrival_in, is_over}
use Rattle.network.specs.Errors.{IfRefused}
use Rattle.network.specs.Events.{Becomes, IsAccepted, Unchanged}
use Rattle.network.specs.Model.{nodes_in, system, system_of}
use Rattle.network.specs.Places.{outside, path_at, router_at}
use Rattle.network.specs.declared.arrival.Arrival.{Arrival}
use Rattle.network.specs.declared.flight.Flight.{Flight}
use Rattle.network.specs.declared.network.Network.{Network}
use Rattle.protocol.specs.Hearing.{hear}
use Rattle.protocol.specs.Router as protocol
use Rattle.protocol.specs.Switching.{switch}
use Rattle.protocol.specs.System.{System, Switch, go_on, step}
use Rattle.router.specs.Model.{model}
use Rattle.router.specs.Replies as replies
use Rattle.router.specs.declared.error.RouterError.{RouterError}
use Rattle.router.specs.declared.error.RouterError.TheVariants.{Refused, Memory}
use Rattle.router.specs.declared.router.Router.{Router}
use Rattle.std.proofs.Math.Seq.{map-set_same}
use Rattle.std.proofs.lemmas.List.{get_or_past, length-map}
use Rattle.types.specs.declared.fault.Refusal.TheVariants.{NoSuchLink}
use Rattle.types.specs.declared.message.Message.{Message}
use Rattle.types.specs.declared.message.Message.TheVariants.{LinkDown, Switched}
use Rattle.types.specs.declared.message.Sent.{Sent}

-- router u replies, and the network goes on; or nothing changes
pub record Goes (u : ℕ) (reply : protocol.Reply) (old new : Network) {A : Type 0} (o : Result A RouterError) : Type 0 where
  pub ok : OnOk o (Becomes old new (go_on (system old) u (system old).came reply))
  pub accepted : OnOk o (IsAccepted reply)
  pub refused : IfRefused o (λ f. reply ≡ protocol.Refused f)
  pub unchanged : OnErr o (Unchanged old new)

accepts : (reply : protocol.Reply) (s t : protocol.Router) (before after : List Sent) →
    replies.Accepted reply s t before after → IsAccepted reply
accepts (protocol.Refused k) s t before after h = absurd h
accepts protocol.Stays s t before after h = tt
accepts (protocol.Goes y ms) s t before after h = tt

-- the router r at u becomes s, more may be said, and all else stays as it was
pub record Told (u : ℕ) (r s : Router) (old new : Network) : Type 0 where
  pub below : u < length (vec_items old.routers)
  pub at : r ≡ get_or (vec_items old.routers) u r
  pub is : system new ≡
      system_of (set (vec_items old.routers) u s) (vec_items new.said) (vec_items old.arrivals) (vec_items old.flights)
  pub nodes : nodes_in new ≡ nodes_in old
  pub arrivals : vec_items new.arrivals ≡ vec_items old.arrivals
  pub flights : vec_items new.flights ≡ vec_items old.flights

module _ (u : ℕ) (r s : Router) (old new : Network) (t : Told u r s old new) where
  becomes : (σ : System) → system new ≡ σ → Becomes old new σ
  becomes σ e =
      record {
        is = e;
        beside = record {
          nodes = t.nodes;
          packets = ap length t.flights;
          paths = λ p. ap (λ (l : List Flight). path_at l p) t.flights;
        };
        over = λ k. ap (λ (l : List Arrival). is_over (arrival_in l k)) t.arrivals;
      }

  here : model r ≡ (system old).routers u
  here = sym (read_at model (vec_items old.routers) outside u r t.below t.at)

  unchanged : replies.Unchanged (model r) (model s) (vec_items old.said) (vec_items new.said) → Unchanged old new
  unchanged h =
      becomes (system old) (t.is ∙
      ap₂ (λ l ms. record (system old) { routers = λ v. get_or l v outside; said = ms })
      (map-set_same model (vec_items old.routers) u s r (h.0 ∙ ap model t.at)) h.1)

  goes_on : (reply : protocol.Reply) →
      replies.Accepted reply (model r) (model s) (vec_items old.said) (vec_items new.said) →
      Becomes old new (go_on (system old) u (system old).came reply)
  goes_on (protocol.Refused k) h = absurd h
  goes_on protocol.Stays h = unchanged h
  goes_on (protocol.Goes x ms) h =
      becomes _ (t.is ∙ ap₂ (λ f l. record (system old) { routers = f; said = l })
      (fun_ext (set_at model (vec_items old.routers) outside u s x t.below h.0)) h.1)

  pub hears : (w : ℕ) (m : Message) {A : Type 0} (o : Result A RouterError) →
      replies.Answered (hear (model r) w m) (model r) (model s) (vec_items old.said) (vec_items new.said) o →
      Goes u (hear ((system old).routers u) w m) old new o
  hears w m o h = subst (λ x. Goes u (hear x w m) old new o) here (by o h)
    where
      by : {A : Type 0} (o : Result A RouterError) →
          replies.Answered (hear (model r) w m) (model r) (model s) (vec_items old.said) (vec_items new.said) o →
          Goes u (hear (model r) w m) old new o
      by (Ok x) h =
          record {
            ok = goes_on (hear (model r) w m) h;
            accepted = accepts (hear (model r) w m) (model r) (model s) _ _ h;
            refused = tt;
            unchanged = tt;
          }
      by (Err (Refused f)) h = record { ok = tt; accepted = tt; refused = h.0; unchanged = unchanged h.1 }
      by (Err (Memory e)) h = record { ok = tt; accepted = tt; refused = tt; unchanged = unchanged h }

  pub switches : (d : ℕ) {A E : Type 0} (o : Result A E) →
      OnOk o (replies.Accepted (switch (model r) d) (model r) (model s) (vec_items old.said) (vec_items new.said)) →
      OnErr o (replies.Unchanged (model r) (model s) (vec_items old.said) (vec_items new.said)) →
      OnOk o (Becomes old new (step (Switch u d) (system old))) × OnErr o (Unchanged old new)
  switches d (Ok x) h i =
      (subst (λ y. Becomes old new (go_on (system old) u (system old).came (switch y d))) here (goes_on (switch (model r) d) h), tt)
  switches d (Err e) h i = (tt, unchanged i)

-- outside the network no link is known
pub no_router : (rs : List Router) (u : ℕ) → length rs ≤ u → router_at rs u ≡ outside
no_router rs u h = get_or_past (map model rs) u outside (omega (arith, length-map rs model))

hear_outside : (w : ℕ) (m : Message) → hear outside w m ≡ protocol.Refused NoSuchLink
unfolding protocol.among
hear_outside w (LinkDown l) = refl
hear_outside w (Switched m) = refl

pub heard_outside : (rs : List Router) (u w : ℕ) (m : Message) → length rs ≤ u →
    hear (router_at rs u) w m ≡ protocol.Refused NoSuchLink
heard_outside rs u w m h = rw (no_router rs u h) (hear_outside w m)
