-- Packets that are played to their end.
use Rattle.std.proofs.Common.{◌≡◌, ℕ, suc, ◌<◌, true, false, eqb, sym, refl, ap, ◌∙◌, subst, arith}
use Rattle.network.specs.Events.{Unchanged}
use Rattle.network.specs.Model.{system}
use Rattle.network.specs.Packets.{Apart, ArrivesAfter, ArrivesCalm, Hops, Moves}
use Rattle.network.specs.declared.network.Network.{Network}
use Rattle.protocol.proofs.Playing.{hop_last, played_calm, played_out}
use Rattle.protocol.proofs.Sending.{forward_sends}
use Rattle.protocol.specs.Delivery.{Deliverable}
use Rattle.protocol.specs.Packet.{Decision, Deliver, Send, Drop, forward}
use Rattle.protocol.specs.Playing.{hops, is_under_way, Brought}
use Rattle.protocol.specs.Router as protocol
use Rattle.protocol.specs.System.{System, Flight, NoPacket, UnderWay, Delivered, Dropped, decided, moved, run, step, Hop}
use Rattle.std.proofs.lemmas.Bool.{both_ways, cond-true, eq-eqb}
use Rattle.theory.specs.Network.{without}

-- how often a packet may still be handled
abbrev pub left : Flight → ℕ
left NoPacket = 0
left (UnderWay u c p) = suc p.hop_limit
left (Delivered u c) = 0
left (Dropped u c k) = 0

falls : (f : ℕ → protocol.Router) (x : Flight) → is_under_way x ≡ true → left (moved f x) < left x
falls f NoPacket e = absurd (both_ways false refl e)
falls f (UnderWay u c p) e = by (forward (f u) p) refl
  where
    by : (d : Decision) → forward (f u) p ≡ d → left (decided (f u) u c d) < suc p.hop_limit
    by Deliver w = omega arith
    by (Send v q) w = omega (arith, (forward_sends (f u) p v q w).fewer)
    by (Drop k) w = omega arith
falls f (Delivered u c) e = absurd (both_ways false refl e)
falls f (Dropped u c k) e = absurd (both_ways false refl e)

pub left_falls : (q : ℕ) (old new : Network) → Hops q old new → true ≡ is_under_way ((system old).flights q) →
    left ((system new).flights q) < left ((system old).flights q)
left_falls q old new h e =
    subst (λ x. left x < left (σ.flights q)) (sym flight) (falls σ.routers (σ.flights q) (sym e))
  where
    σ : System
    σ = system old

    flight : (system new).flights q ≡ moved σ.routers (σ.flights q)
    flight = ap (λ (τ : System). τ.flights q) h.is ∙ cond-true (eqb q q) _ (σ.flights q) (eq-eqb q q refl)

pub none_yet : (q : ℕ) (net : Network) → Moves q net net
unfolding hops run
none_yet q net =
    record {
      hop_count = 0;
      is = refl;
      packets = refl;
      apart = record { nodes = refl; paths = λ p h. refl; over = λ k. refl };
    }

pub apart_then : (q : ℕ) (first now next : Network) → Apart q first now → Apart q now next → Apart q first next
apart_then q first now next a b =
    record {
      nodes = b.nodes ∙ a.nodes;
      paths = λ p w. b.paths p w ∙ a.paths p w;
      over = λ k. b.over k ∙ a.over k;
    }

pub once_more : (q : ℕ) (first now next : Network) → Moves q first now → Hops q now next → Moves q first next
once_more q first now next m h =
    record {
      hop_count = suc m.hop_count;
      is = h.is ∙ (ap (step (Hop q)) m.is ∙ hop_last q m.hop_count (system first));
      packets = h.packets ∙ m.packets;
      apart = apart_then q first now next m.apart h.apart;
    }

pub no_more : (q : ℕ) (first now next : Network) → Moves q first now → Unchanged now next → Moves q first next
no_more q first now next m u =
    record {
      hop_count = m.hop_count;
      is = u.is ∙ m.is;
      packets = u.beside.packets ∙ m.packets;
      apart =
          apart_then q first now next m.apart
          (record { nodes = u.beside.nodes; paths = λ p w. u.beside.paths p; over = u.over });
    }

module _ (q : ℕ) (old new : Network) (m : Moves q old new) (e : is_under_way ((system new).flights q) ≡ false) where
  ended : is_under_way ((run (hops q m.hop_count) (system old)).flights q) ≡ false
  ended = ap (λ (τ : System). is_under_way (τ.flights q)) (sym m.is) ∙ e

  pub arrives_after : ArrivesAfter q old new
  arrives_after z r σ F es i d u c ss D = (m.hop_count, m.is, brought ended D)
    where
      brought : is_under_way ((run (hops q m.hop_count) (system old)).flights q) ≡ false →
          Deliverable (without r z) (system old) q d u c ss → Brought z r (system old) q d m.hop_count ss
      brought =
          subst (λ τ. is_under_way ((run (hops q m.hop_count) τ).flights q) ≡ false →
          Deliverable (without r z) τ q d u c ss → Brought z r τ q d m.hop_count ss) (sym i)
          (λ w E. played_out z r σ F es q d u c ss E m.hop_count w)

  pub arrives_calm : ArrivesCalm q old new
  arrives_calm z g C d u c ss D =
      subst (λ τ. (a : ℕ) × (τ.flights q ≡ Delivered d a)) (sym m.is)
      (played_calm z (system old) g C q d u c ss D m.hop_count ended).0
