-- A packet that is sent arrives.
use Rattle.std.proofs.Common.{◌≡◌, ℕ, ◌<◌, ◌≤◌, eqb, List, [], ◌∷◌, ◌++◌, length, vec_items, sym, refl, ap, ◌∙◌, subst, arith}
use Rattle.network.proofs.Packets.{no_flight}
use Rattle.network.proofs.Plays.{apart_then}
use Rattle.network.specs.Flight.{packet_of_request}
use Rattle.network.specs.Model.{system}
use Rattle.network.specs.Packets.{ArrivesAfter, ArrivesCalm, Moves, Puts, Sends, SendsAfter, SendsCalm}
use Rattle.network.specs.declared.network.Network.{Network}
use Rattle.network.specs.declared.send_request.SendRequest.{SendRequest}
use Rattle.protocol.proofs.Delivered.{within_limit}
use Rattle.protocol.proofs.Playing.{run_after}
use Rattle.protocol.specs.Delivery.{Deliverable, Reachable}
use Rattle.protocol.specs.Failed.{after, Calm}
use Rattle.protocol.specs.Playing.{hops, Brought}
use Rattle.protocol.specs.System.{System, NoPacket, Event, Put, fails, put_on, run, step}
use Rattle.std.proofs.lemmas.Bool.{cond-true, eq-eqb}
use Rattle.std.proofs.lemmas.List.{length-take}
use Rattle.theory.specs.Network as theory
use Rattle.theory.specs.Network.{without, LinkId}
use Rattle.types.specs.Packet.{fresh, Packet}
use Rattle.types.specs.Segments.{segments_of}
use Rattle.types.specs.declared.segment.Segment.{Segment}

-- a packet that has just been put
just_put : (w : theory.Network) (σ : System) (q d u : ℕ) (ss : List Segment) → σ.flights q ≡ NoPacket → w.n ≤ 64 →
    u < w.n → length ss ≤ 3 → Reachable w d u ss → Deliverable w (step (Put q u (fresh d ss)) σ) q d u 0 ss
just_put w σ q d u ss none few l short reach =
    record {
      hop_limit = 65535;
      at =
          cond-true (eqb q q) (put_on u (fresh d ss) (σ.flights q)) (σ.flights q) (eq-eqb q q refl) ∙
          ap (put_on u (fresh d ss)) none;
      inside = l;
      few = short;
      reachable = reach;
      enough = omega (arith, within_limit w.n (length ss) few short);
    }

put_after : (r : LinkId) (σ : System) (es : List Event) (q u : ℕ) (p : Packet) →
    step (Put q u p) (after r σ es) ≡ after r σ (es ++ Put q u p ∷ [])
unfolding run
put_after r σ es q u p = run_after es (Put q u p ∷ []) (fails r σ)

put_calm : (z : theory.Network) (σ : System) (q u : ℕ) (p : Packet) → Calm z σ → Calm z (step (Put q u p) σ)
put_calm z σ q u p C =
    record { gone = C.gone; nothing = C.nothing; others = C.others; old = C.old; came = C.came }

-- it is put into the network old, and then the network mid becomes new
module _ (s : SendRequest) (q : ℕ) (old mid new : Network) (p : Puts s q old mid) where
  abbrev ss : List Segment
  ss = segments_of s.segments

  deliverable : (w : theory.Network) → w.n ≤ 64 → s.start < w.n → Reachable w s.destination s.start ss →
      Deliverable w (system mid) q s.destination s.start 0 ss
  deliverable w few l reach =
      subst (λ τ. Deliverable w τ q s.destination s.start 0 ss) (sym p.is)
      (just_put w (system old) q s.destination s.start ss none few l short reach)
    where
      none : (system old).flights q ≡ NoPacket
      none = no_flight (vec_items old.flights) q (omega (arith, p.next))

      short : length ss ≤ 3
      short = omega (arith, length-take s.segments.count s.segments.all, s.segments.few.0)

  pub sends : Moves q mid new → Sends s q old new
  sends m =
      record {
        next = p.next;
        hop_count = m.hop_count;
        is = m.is ∙ ap (run (hops q m.hop_count)) p.is;
        packets = m.packets ∙ p.packets;
        apart = apart_then q old mid new p.apart m.apart;
      }

  pub sends_after : ArrivesAfter q mid new → SendsAfter s q old new
  sends_after promise z r σ few F es e l reach =
      (w.0, w.1 ∙ ap (run (hops q w.0)) p.is, subst (λ τ. Brought z r τ q s.destination w.0 ss) p.is w.2)
    where
      put : Event
      put = Put q s.start (packet_of_request s)

      w : (k : ℕ) × (system new ≡ run (hops q k) (system mid)) × Brought z r (system mid) q s.destination k ss
      w =
          promise z r σ F (es ++ put ∷ [])
          (p.is ∙ (ap (step put) e ∙ put_after r σ es q s.start (packet_of_request s)))
          s.destination s.start 0 ss (deliverable (without r z) few l reach)

  pub sends_calm : ArrivesCalm q mid new → SendsCalm s q old new
  sends_calm calm z few g C l reach =
      calm z g (subst (Calm z) (sym p.is) (put_calm z (system old) q s.start (packet_of_request s) C))
      s.destination s.start 0 ss (deliverable z few l reach)
