-- Packets that are put.
use Rattle.std.proofs.Common.{◌≡◌, ℕ, ◌≤◌, eqb, List, [], ◌∷◌, ◌++◌, map, length, vec_items, sym, refl, ap, ◌∙◌, arith}
use mathlib.Core.Path.{fun_ext}
use Rattle.network.proofs.Sets.{push_at}
use Rattle.network.specs.Events.{is_message_over}
use Rattle.network.specs.Flight.{flight_of, packet_of_request, path_of}
use Rattle.network.specs.Model.{nodes_in, packets_in, system, system_of}
use Rattle.network.specs.Packets.{Puts}
use Rattle.network.specs.Places.{flight_at, path_at}
use Rattle.network.specs.declared.flight.Flight.{Flight}
use Rattle.network.specs.declared.network.Network.{Network}
use Rattle.network.specs.declared.send_request.SendRequest.{SendRequest}
use Rattle.protocol.specs.System as system
use Rattle.protocol.specs.System.{System, put_on}
use Rattle.std.proofs.lemmas.Bool.{cond-false, cond-true, eq-eqb, ne_eqb}
use Rattle.std.proofs.lemmas.List.{get_or_past, length-map, length_push}

-- the network new is old with other packets
pub record WithPackets (fs : List Flight) (old new : Network) : Type 0 where
  pub is : system new ≡ system_of (vec_items old.routers) (vec_items old.said) (vec_items old.arrivals) fs
  pub packets : vec_items new.flights ≡ fs
  pub nodes : nodes_in new ≡ nodes_in old
  pub over : (k : ℕ) → is_message_over new k ≡ is_message_over old k

abbrev pub with_flights : System → (ℕ → system.Flight) → System
with_flights σ f = record σ { flights = f }

pub no_flight : (fs : List Flight) (q : ℕ) → length fs ≤ q → flight_at fs q ≡ system.NoPacket
no_flight fs q h = get_or_past (map flight_of fs) q system.NoPacket (omega (arith, length-map fs flight_of))

-- a packet is put under the next number
module _ (r : SendRequest) (f : Flight) (old new : Network) where
  abbrev fs : List Flight
  fs = vec_items old.flights

  abbrev n : ℕ
  n = packets_in old

  module _ (h : flight_of f ≡ system.UnderWay r.start 0 (packet_of_request r)) (w : WithPackets (fs ++ f ∷ []) old new) where
    waits : put_on r.start (packet_of_request r) (flight_at fs n) ≡ system.UnderWay r.start 0 (packet_of_request r)
    waits = ap (put_on r.start (packet_of_request r)) (no_flight fs n (omega arith))

    put_next : path_of f ≡ r.start ∷ [] → Puts r n old new
    put_next g =
        record {
          next = refl;
          is =
              w.is ∙ ap (with_flights (system old)) (fun_ext (push_at flight_of fs system.NoPacket f _ (h ∙ sym waits)));
          path =
              ap (λ l. path_at l n) w.packets ∙
              (push_at path_of fs [] f (r.start ∷ []) g n ∙ cond-true (eqb n n) _ _ (eq-eqb n n refl));
          packets = ap length w.packets ∙ length_push fs f;
          apart = record {
            nodes = w.nodes;
            paths = λ p d.
                ap (λ l. path_at l p) w.packets ∙
                (push_at path_of fs [] f (path_of f) refl p ∙ cond-false (eqb p n) _ _ (ne_eqb p n d));
            over = w.over;
          };
        }

    pub puts : (q : ℕ) → q ≡ n → path_of f ≡ r.start ∷ [] → Puts r q old new
    puts q e g = rw e (put_next g)
