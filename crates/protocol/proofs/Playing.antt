-- A packet that moves with nothing else happening arrives.
use Rattle.std.proofs.Common.{◌≡◌, ℕ, zero, suc, ◌+◌, ◌≤◌, true, false, List, [], ◌∷◌, ◌++◌, length, sym, refl, ap, subst}
use Rattle.std.proofs.lemmas.Bool.{both_ways}
use Rattle.protocol.specs.Costs.{Aims, NotYet, Spends}
use Rattle.protocol.specs.Delivery.{Safe, Arrived, Deliverable, repairs}
use Rattle.protocol.specs.Failed.{after}
use Rattle.protocol.specs.Playing.{hops, flown, is_under_way, PlayedOut, PlayedCalm}
use Rattle.protocol.specs.System.{run, step, fails, System, Flight, NoPacket, UnderWay, Delivered, Dropped, Event, Hop}
use Rattle.protocol.proofs.Spending.{once_for_aim, repair_cost}
use Rattle.protocol.proofs.Delivered.{delivery, repaired_once, calm_delivery}
use Rattle.theory.specs.Network.{without}

-- one run after another
pub run_after : (es fs : List Event) (σ : System) → run fs (run es σ) ≡ run (es ++ fs) σ
unfolding run
run_after [] fs σ = refl
run_after (e ∷ es) fs σ = run_after es fs (step e σ)

-- one hop more comes last
pub hop_last : (q k : ℕ) (σ : System) → step (Hop q) (run (hops q k) σ) ≡ run (hops q (suc k)) σ
unfolding run hops
hop_last q zero σ = refl
hop_last q (suc k) σ = hop_last q k (step (Hop q) σ)

-- who is not under way, and safe, has arrived
ended : (d m : ℕ) (x : Flight) → Safe d m x → is_under_way x ≡ false → Arrived d x
ended d m NoPacket s e = absurd s
ended d m (UnderWay u c p) s e = absurd (both_ways true e refl)
ended d m (Delivered u c) s e = (c, ap (λ v. Delivered v c) s)
ended d m (Dropped u c k) s e = absurd s

pub played_out : PlayedOut
played_out z r σ F es q d u c ss D k e =
    record {
      arrived = ended d (length ss + 2) (flown q k (after r σ es)) (delivery z r σ F es q d u c ss D (hops q k)).0 e;
      safe = λ j. (delivery z r σ F es q d u c ss D (hops q j)).0;
      repaired = repaired_once z r σ F es q d u c ss D (hops q k);
      once =
          λ i j x v a ts.
          subst (λ τ. Deliverable (without r z) τ q d v a ts → Aims d ts x → NotYet q x ts (hops q j) τ → repairs q (hops q j) τ ≤ 1) (sym (later i))
          (λ E h n. once_for_aim z r σ F (es ++ hops q i) q d x v a ts E h (hops q j) n);
      cost =
          λ i j x s f a b ts E h p l w.
          subst (λ τ. Deliverable (without r z) τ q d s a ts → Spends τ q x a b ts (hops q j)) (sym (later i))
          (λ E. repair_cost z r σ F (es ++ hops q i) q d x s f a b ts E h p l w (hops q j)) E;
    }
  where
    later : (i : ℕ) → run (hops q i) (after r σ es) ≡ after r σ (es ++ hops q i)
    later i = run_after es (hops q i) (fails r σ)

pub played_calm : PlayedCalm
played_calm z σ g C q d u c ss D k e =
    (ended d (length ss) (flown q k σ) (calm_delivery z σ g C q d u c ss D (hops q k)).0 e, λ j. (calm_delivery z σ g C q d u c ss D (hops q j)).0)
