-- Messages that arrive.
use Rattle.std.proofs.Common.{◌≡◌, ℕ, zero, suc, ◌<◌, Bool, true, false, cond, ◌||◌, eqb, ltb, List, [], ◌∷◌, length, get_or, set, Some, Ok, Err, OnOk, Result, vec_items, sym, refl, ap, ◌∙◌, subst, ap₂, arith}
use mathlib.Core.Path.{fun_ext}
use Rattle.network.proofs.Becoming.{equally, then}
use Rattle.network.proofs.Replies.{Goes}
use Rattle.network.specs.Arrival.{arrival_in, has_come, is_over}
use Rattle.network.specs.Errors.{IfRefused, OnMemory, UnlessMemory}
use Rattle.network.specs.Events.{is_message_under_way, reply_in, reply_to, Arrives, Becomes, Beside, IsAccepted, Unchanged}
use Rattle.network.specs.Model.{system}
use Rattle.network.specs.declared.arrival.Arrival.{Arrival}
use Rattle.network.specs.declared.arrival.Arrival.TheVariants.{NotYet}
use Rattle.network.specs.declared.network.Network.{Network}
use Rattle.protocol.specs.Hearing.{hear}
use Rattle.protocol.specs.Router as protocol
use Rattle.protocol.specs.System.{System, arrive, go_on, nth}
use Rattle.router.specs.declared.error.RouterError.{RouterError}
use Rattle.router.specs.declared.error.RouterError.TheVariants.{Refused, Memory}
use Rattle.std.proofs.lemmas.Bool.{and_parts, both_ways, cond_both, eqb-false, eqb-true, ltb-true}
use Rattle.std.proofs.lemmas.Grind.{get_or-set_at}
use Rattle.std.proofs.lemmas.List.{get_or-set_other}
use Rattle.types.specs.declared.message.Sent.{Sent}

-- a message by its number
nth_at : (ms : List Sent) (k : ℕ) (m : Sent) → k < length ms → m ≡ get_or ms k m → nth ms k ≡ Some m
unfolding nth
nth_at [] k m l e = absurd (omega arith)
nth_at (x ∷ ms) zero m l e = ap Some (sym e)
nth_at (x ∷ ms) (suc k) m l e = nth_at ms k m (omega arith) e

-- other entries, which say the same of each message
abbrev pub SameArrivals : (old new : List Arrival) → Type 0
SameArrivals old new = (k : ℕ) → arrival_in new k ≡ arrival_in old k

-- an entry set anew
marked : {X : Type 0} (h : Arrival → X) (old mid : List Arrival) (k : ℕ) (a : Arrival) → SameArrivals old mid →
    k < length mid → (j : ℕ) → h (arrival_in (set mid k a) j) ≡ cond (eqb j k) (h a) (h (arrival_in old j))
marked h old mid k a s l j =
    cond_both (eqb j k) (h a) (h (arrival_in old j)) (λ z. h (arrival_in (set mid k a) j) ≡ z)
    (λ t. ap h (get_or-set_at mid k j a NotYet (eqb-true j k t) l))
    (λ t. ap h (get_or-set_other mid k j a NotYet (eqb-false j k t) ∙ s j))

abbrev with_came : (ℕ → Bool) → System → System
with_came f σ = record σ { came = f }

came_on : (σ : System) (u : ℕ) (f g : ℕ → Bool) (r : protocol.Reply) → with_came g (go_on σ u f r) ≡ go_on σ u g r
came_on σ u f g (protocol.Refused k) = refl
came_on σ u f g protocol.Stays = refl
came_on σ u f g (protocol.Goes s ms) = refl

or_cond : (b x y : Bool) → x ≡ true → cond b x y ≡ (b || y)
or_cond true x y e = e
or_cond false x y e = refl

-- message k has arrived, or has not
pub record Brings (k : ℕ) (over : Bool) (old new : Network) {A : Type 0} (o : Result A RouterError) : Type 0 where
  pub arrives : UnlessMemory o (Arrives k over old new)
  pub accepted : OnOk o (IsAccepted (reply_to k (system old)))
  pub refused : IfRefused o (λ f. reply_to k (system old) ≡ protocol.Refused f)
  pub memory : OnMemory o (Unchanged old new)

-- its entry is made, it is heard, and then its entry is set
pub record Marks (k : ℕ) (m : Sent) (then : Arrival) (old mid far new : Network) : Type 0 where
  pub come : has_come then ≡ true
  pub under_way : is_message_under_way old k ≡ true
  pub message : m ≡ get_or (vec_items old.said) k m
  pub same : SameArrivals (vec_items old.arrivals) (vec_items mid.arrivals)
  pub room : k < length (vec_items mid.arrivals)
  pub before : Unchanged old mid
  pub kept : vec_items far.arrivals ≡ vec_items mid.arrivals
  pub is : system new ≡ with_came (λ j. has_come (arrival_in (set (vec_items far.arrivals) k then) j)) (system far)
  pub beside : Beside far new
  pub mark : vec_items new.arrivals ≡ set (vec_items far.arrivals) k then

-- b: is memory wanting?
module _ (k : ℕ) (m : Sent) (then : Arrival) (old mid far new : Network) (M : Marks k m then old mid far new) (b : Bool) where
  abbrev σ : System
  σ = system old

  abbrev reply : System → protocol.Reply
  reply τ = hear (τ.routers m.to) m.from m.message

  abbrev g : ℕ → Bool
  g = λ j. eqb j k || σ.came j

  here : nth σ.said k ≡ Some m
  here =
      nth_at (vec_items old.said) k m
      (ltb-true k (length (vec_items old.said)) (and_parts (ltb k (length (vec_items old.said))) _ M.under_way).0) M.message

  answer : reply_to k σ ≡ reply (system mid)
  answer = ap (reply_in σ) here ∙ sym (ap reply M.before.is)

  came : (λ j. has_come (arrival_in (set (vec_items far.arrivals) k then) j)) ≡ g
  came = fun_ext (λ j.
      ap (λ l. has_come (arrival_in (set l k then) j)) M.kept ∙
      (marked has_come (vec_items old.arrivals) (vec_items mid.arrivals) k then M.same M.room j ∙
      or_cond (eqb j k) (has_come then) (σ.came j) M.come))

  arrives : (τ : System) → Becomes mid far τ → with_came g τ ≡ go_on σ m.to g (reply σ) → Arrives k (is_over then) old new
  arrives τ b w =
      record {
        is = M.is ∙ (ap₂ with_came came b.is ∙ (w ∙ sym (ap (arrive σ k) here)));
        beside = record {
          nodes = M.beside.nodes ∙ (b.beside.nodes ∙ M.before.beside.nodes);
          packets = M.beside.packets ∙ (b.beside.packets ∙ M.before.beside.packets);
          paths = λ q. M.beside.paths q ∙ (b.beside.paths q ∙ M.before.beside.paths q);
        };
        over = λ j.
            ap (λ l. is_over (arrival_in l j)) (M.mark ∙ ap (λ l. set l k then) M.kept) ∙
            marked is_over (vec_items old.arrivals) (vec_items mid.arrivals) k then M.same M.room j;
      }

  pub marks : {A : Type 0} (o : Result A RouterError) → Goes m.to (reply (system mid)) mid far o →
      OnMemory o (b ≡ true) → b ≡ false → Brings k (is_over then) old new o
  marks (Ok x) h w n =
      record {
        arrives =
            arrives (go_on (system mid) m.to (system mid).came (reply (system mid))) h.ok
            (ap (λ τ. with_came g (go_on τ m.to τ.came (reply τ))) M.before.is ∙ came_on σ m.to σ.came g (reply σ));
        accepted = subst IsAccepted (sym answer) h.accepted;
        refused = tt;
        memory = tt;
      }
  marks (Err (Refused f)) h w n =
      record {
        arrives =
            arrives (system mid) h.unchanged
            (ap (with_came g) M.before.is ∙ ap (go_on σ m.to g) (sym (sym (ap reply M.before.is) ∙ h.refused)));
        accepted = tt;
        refused = answer ∙ h.refused;
        memory = tt;
      }
  marks (Err (Memory e)) h w n = absurd (both_ways b n w)

-- where memory is wanting nothing has arrived
pub unmarked : (k : ℕ) (over : Bool) (old mid far : Network) → Unchanged old mid → (b : Bool) → b ≡ true →
    (u : ℕ) (r : protocol.Reply) {A : Type 0} (o : Result A RouterError) → Goes u r mid far o →
    UnlessMemory o (b ≡ false) → Brings k over old far o
unmarked k over old mid far a b n u r (Ok x) h w = absurd (both_ways b w n)
unmarked k over old mid far a b n u r (Err (Refused f)) h w = absurd (both_ways b w n)
unmarked k over old mid far a b n u r (Err (Memory x)) h w =
    record {
      arrives = tt;
      accepted = tt;
      refused = tt;
      memory = equally old far _ _ (then old mid far _ _ a h.unchanged) a.is;
    }

-- the same arrivals make the same system
pub room_made : (old new : Network) → SameArrivals (vec_items old.arrivals) (vec_items new.arrivals) →
    system new ≡ with_came (λ k. has_come (arrival_in (vec_items new.arrivals) k)) (system old) → Beside old new →
    Unchanged old new
room_made old new s e b =
    record {
      is = e ∙ ap (λ f. with_came f (system old)) (fun_ext (λ k. ap has_come (s k)));
      beside = b;
      over = λ k. ap is_over (s k);
    }
