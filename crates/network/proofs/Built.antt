-- A network as it is built.
use Rattle.std.proofs.Common.{◌≡◌, ℕ, ◌+◌, ◌<◌, false, cond, ltb, List, [], ◌∷◌, ◌++◌, length, None, sym, refl, ap, ◌∙◌, subst, arith}
use mathlib.Core.Path.{fun_ext}
use Rattle.links.specs.Links.{IsNodeCount}
use Rattle.network.proofs.Placed.{Placed}
use Rattle.network.proofs.Replies.{no_router}
use Rattle.network.proofs.Sets.{push_all}
use Rattle.network.specs.Model.{begun, system_of}
use Rattle.network.specs.Places.{outside, router_at}
use Rattle.network.specs.declared.arrival.Arrival.{Arrival}
use Rattle.network.specs.declared.flight.Flight.{Flight}
use Rattle.protocol.specs.Failed.{Calm}
use Rattle.protocol.specs.Router.{idle}
use Rattle.protocol.specs.System.{nth, NoPacket}
use Rattle.router.specs.Model.{model}
use Rattle.router.specs.declared.router.Router.{Router}
use Rattle.std.proofs.lemmas.Bool.{both_ways, cond-true, cond_both, lt-ltb, ltb-false, ltb-true}
use Rattle.std.proofs.lemmas.List.{length_push}
use Rattle.theory.specs.Network as theory
use Rattle.types.specs.declared.message.Sent.{Sent}

-- there is a router for each of the first k nodes, which has been given the list z
pub record AllIdle (z : theory.Network) (k : ℕ) (rs : List Router) : Type 0 where
  pub count : length rs ≡ k
  pub each : (u : ℕ) → u < k → router_at rs u ≡ idle z [] u

pub idle_none : (z : theory.Network) (rs : List Router) → rs ≡ [] → AllIdle z 0 rs
idle_none z rs e = record { count = ap length e; each = λ u l. absurd (omega arith) }

-- one router more
pub idle_more : (z : theory.Network) (k : ℕ) (rs new : List Router) (r : Router) → AllIdle z k rs → model r ≡ idle z [] k → new ≡ rs ++ r ∷ [] → AllIdle z (k + 1) new
idle_more z k rs new r h e i = rw i (
    record {
      count = omega (arith, length_push rs r, h.count);
      each = λ u l. push_all model rs outside (λ v x. x ≡ idle z [] v) r (e ∙ ap (idle z []) (sym h.count)) (λ v m. h.each v (omega (arith, h.count))) u (omega (arith, length_push rs r, h.count));
    }
    )

idle_routers : (z : theory.Network) (rs : List Router) → AllIdle z z.n rs → router_at rs ≡ (λ u. cond (ltb u z.n) (idle z [] u) outside)
idle_routers z rs h = fun_ext (λ u. cond_both (ltb u z.n) (idle z [] u) outside (λ x. router_at rs u ≡ x) (λ t. h.each u (ltb-true u z.n t)) (λ t. no_router rs u (omega (arith, ltb-false u z.n t, h.count))))

begun_calm : (z : theory.Network) → Calm z (begun z)
unfolding nth
begun_calm z =
    record {
      gone = λ u. [];
      nothing = λ u h. cond-true (ltb u z.n) (idle z [] u) outside (lt-ltb u z.n h);
      others = λ u h. cond_both (ltb u z.n) (idle z [] u) outside (λ x. x.transition ≡ None) (λ t. refl) (λ t. refl);
      old = λ k m e. let q : ◌≡◌ {A = ℕ} 0 1 = cc in absurd (omega arith);
      came = λ k e. absurd (both_ways false refl e);
    }

-- no message or packet is under way
pub record Built (z : theory.Network) (rs : List Router) (ms : List Sent) (cs : List Arrival) (fs : List Flight) : Type 0 where
  pub system : system_of rs ms cs fs ≡ begun z
  pub calm : Calm z (system_of rs ms cs fs)
  pub placed : Placed rs fs

pub built : (z : theory.Network) (rs : List Router) (ms : List Sent) (cs : List Arrival) (fs : List Flight) → IsNodeCount z.n → AllIdle z z.n rs → ms ≡ [] → cs ≡ [] → fs ≡ [] → Built z rs ms cs fs
built z rs ms cs fs c h m a f =
    let e : system_of rs ms cs fs ≡ begun z = rw (m, a, f) (ap (λ r. record { routers = r; said = []; came = λ k. false; flights = λ q. NoPacket }) (idle_routers z rs h)) in
    record {
      system = e;
      calm = subst (λ σ. Calm z σ) (sym e) (begun_calm z);
      placed = record {
        count = subst IsNodeCount (sym h.count) c;
        routers = λ u l. let w = h.each u (omega (arith, h.count)) in (ap (λ x. x.me) w, ap (λ x. x.links.n) w ∙ sym h.count);
        packets = λ q l. absurd (omega (arith, ap length f));
      };
    }
