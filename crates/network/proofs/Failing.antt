-- A link fails, and its ends notice.
use Rattle.std.proofs.Common.{◌≡◌, ◌≢◌, ℕ, Bool, eqb, ◌⊎◌, Ok, Err, OnOk, Result, sym, refl, ap, ◌∙◌, subst, inr}
use Rattle.network.proofs.Becoming.{equally, then}
use Rattle.network.proofs.Replies.{Goes}
use Rattle.network.specs.Errors.{IfRefused, OnMemory}
use Rattle.network.specs.Events.{Becomes, BothEndsAccept, IsAccepted, OneEndRefuses, Unchanged}
use Rattle.network.specs.Model.{system}
use Rattle.network.specs.declared.network.Network.{Network}
use Rattle.protocol.specs.Hearing.{hear, hear_down}
use Rattle.protocol.specs.Router as protocol
use Rattle.protocol.specs.System.{System, fails, go_on, notices}
use Rattle.router.specs.Replies.{Judged}
use Rattle.router.specs.declared.error.RouterError.{RouterError}
use Rattle.router.specs.declared.error.RouterError.TheVariants.{Refused, Memory}
use Rattle.router.specs.declared.report.Report.{Report}
use Rattle.router.specs.declared.report.Report.TheVariants.{New, Duplicate}
use Rattle.std.proofs.lemmas.Bool.{cond-false, ne_eqb}
use Rattle.theory.specs.Network.{LinkId}
use Rattle.types.specs.declared.message.Message.TheVariants.{LinkDown}

-- a router that knows what the failure is to it accepts that
accepts : (l : LinkId) (s : protocol.Router) (r : Report) → Judged l s (Ok r) → IsAccepted (hear_down l s)
accepts l s New h = subst IsAccepted (sym h) tt
accepts l s Duplicate h = subst IsAccepted (sym h) tt

-- the other routers stay as they are
other_router : (σ : System) (u v : ℕ) (came : ℕ → Bool) (reply : protocol.Reply) → v ≢ u →
    (go_on σ u came reply).routers v ≡ σ.routers v
other_router σ u v came (protocol.Refused k) h = refl
other_router σ u v came protocol.Stays h = refl
other_router σ u v came (protocol.Goes s ms) h = cond-false (eqb v u) s (σ.routers v) (ne_eqb v u h)

-- a link has failed, or has not
pub record Fails (l : LinkId) (old new : Network) {A : Type 0} (o : Result A RouterError) : Type 0 where
  pub fails : OnOk o (Becomes old new (fails l (system old)))
  pub accepted : OnOk o (BothEndsAccept l (system old))
  pub refused : IfRefused o (λ f. OneEndRefuses f l (system old))
  pub unchanged : IfRefused o (λ f. Unchanged old new)
  pub memory : OnMemory o (Unchanged old new ⊎ Becomes old new (notices l l.a (system old)))

module _ (l : LinkId) (old mid new : Network) (p q : Report) where
  -- the first end has noticed, and then maybe the second
  second_hears : {A : Type 0} (o : Result A RouterError) → l.a ≢ l.b →
      Judged l ((system old).routers l.a) (Ok p) → Judged l ((system old).routers l.b) (Ok q) →
      Becomes old mid (notices l l.a (system old)) →
      Goes l.b (hear_down l ((system mid).routers l.b)) mid new o → Fails l old new o
  second_hears (Ok x) n i j b h =
      record {
        fails = equally old new _ _ (then old mid new _ _ b h.ok) (ap (notices l l.b) b.is);
        accepted = (accepts l ((system old).routers l.a) p i, accepts l ((system old).routers l.b) q j);
        refused = tt;
        unchanged = tt;
        memory = tt;
      }
  second_hears (Err (Memory e)) n i j b h =
      record {
        fails = tt;
        accepted = tt;
        refused = tt;
        unchanged = tt;
        memory = inr (equally old new _ _ (then old mid new _ _ b h.unchanged) b.is);
      }
  second_hears (Err (Refused f)) n i j b h =
      absurd (subst IsAccepted (ap (hear_down l) (sym same) ∙ h.refused) (accepts l ((system old).routers l.b) q j))
    where
      same : (system mid).routers l.b ≡ (system old).routers l.b
      same =
          ap (λ (σ : System). σ.routers l.b) b.is ∙
          other_router (system old) l.a l.b _ (hear ((system old).routers l.a) l.a (LinkDown l)) (λ e. n (sym e))

  -- of a link with these ends
  pub both_hear : (a b : ℕ) {A : Type 0} (o : Result A RouterError) → record { a = a; b = b } ≡ l → l.a ≢ l.b →
      Judged l ((system old).routers a) (Ok p) → Judged l ((system old).routers b) (Ok q) →
      Becomes old mid (go_on (system old) a (system old).came (hear_down l ((system old).routers a))) →
      Goes b (hear_down l ((system mid).routers b)) mid new o → Fails l old new o
  both_hear a b o e n i j c h =
      second_hears o n (subst (λ v. Judged l ((system old).routers v) (Ok p)) x i)
      (subst (λ v. Judged l ((system old).routers v) (Ok q)) y j)
      (subst (λ v. Becomes old mid (go_on (system old) v (system old).came (hear_down l ((system old).routers v)))) x c)
      (subst (λ v. Goes v (hear_down l ((system mid).routers v)) mid new o) y h)
    where
      x : a ≡ l.a
      x = ap (λ (k : LinkId). k.a) e

      y : b ≡ l.b
      y = ap (λ (k : LinkId). k.b) e
