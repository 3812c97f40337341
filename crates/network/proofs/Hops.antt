-- Packets that move.
use Rattle.std.proofs.Common.{◌≡◌, ℕ, ◌<◌, eqb, List, [], ◌++◌, length, get_or, set, vec_items, Ok, Err, OnOk, OnErr, Result, sym, refl, ap, ◌∙◌, subst, ap₂, arith, length-set}
use mathlib.Core.Path.{fun_ext}
use Rattle.network.proofs.Packets.{with_flights, WithPackets}
use Rattle.network.proofs.Placed.{in_place}
use Rattle.network.proofs.Sets.{read_at, set_at}
use Rattle.network.specs.Events.{Unchanged}
use Rattle.network.specs.Flight.{flight_of, next_nodes, node_in, path_of, SameFlight}
use Rattle.network.specs.Model.{system}
use Rattle.network.specs.Packets.{goes_to, Hops}
use Rattle.network.specs.Places.{flight_at, outside, path_at, router_at, PacketsInPlace, RoutersInPlace}
use Rattle.network.specs.declared.flight.Flight.{Flight}
use Rattle.network.specs.declared.network.Network.{Network}
use Rattle.protocol.proofs.Sending.{forward_sends}
use Rattle.protocol.specs.Packet.{Decision, Deliver, Send, Drop, forward}
use Rattle.protocol.specs.Router as protocol
use Rattle.protocol.specs.System as system
use Rattle.protocol.specs.System.{System, decided, moved, put_on, step, Hop, Put}
use Rattle.router.specs.Model.{model}
use Rattle.router.specs.declared.router.Router.{Router}
use Rattle.routes.proofs.Changes.{routes_lawful}
use Rattle.std.proofs.Math.Seq.{map-set_same}
use Rattle.std.proofs.lemmas.Bool.{cond-false, cond-true, eq-eqb, ne_eqb}

-- it matters only which router is where it is
there : (f : ℕ → protocol.Router) (s : protocol.Router) (x : system.Flight) → f (node_in x) ≡ s →
    moved f x ≡ moved (λ u. s) x
there f s system.NoPacket e = refl
there f s (system.UnderWay u c p) e = ap (λ t. moved (λ v. t) (system.UnderWay u c p)) e
there f s (system.Delivered u c) e = refl
there f s (system.Dropped u c k) e = refl

-- wherever it is sent, it stays inside
moved_inside : (n : ℕ) (r : Router) (x : system.Flight) → (model r).links.n ≡ n → node_in x < n →
    node_in (moved (λ u. model r) x) < n
moved_inside n r system.NoPacket e h = h
moved_inside n r (system.UnderWay u c p) e h = by (forward (model r) p) refl
  where
    by : (d : Decision) → forward (model r) p ≡ d → node_in (decided (model r) u c d) < n
    by Deliver w = h
    by (Send v q) w =
        omega (arith, ((routes_lawful r.routes).within (model r).me v (forward_sends (model r) p v q w).neighbour).1)
    by (Drop k) w = h
moved_inside n r (system.Delivered u c) e h = h
moved_inside n r (system.Dropped u c k) e h = h

-- the packet f, which is number q, and the router r where it is
pub record At (rs : List Router) (fs : List Flight) (q : ℕ) (r : Router) (f : Flight) : Type 0 where
  pub below : q < length fs
  pub packet : f ≡ get_or fs q f
  pub inside : node_in (flight_of f) < length rs
  pub router : r ≡ get_or rs (node_in (flight_of f)) r

pub at : (rs l : List Router) (fs : List Flight) (q u : ℕ) (r : Router) (f : Flight) → PacketsInPlace rs fs →
    q < length fs → f ≡ get_or fs q f → l ≡ rs → u ≡ node_in (flight_of f) → r ≡ get_or l u r → At rs fs q r f
at rs l fs q u r f p below e i j h =
    record {
      below = below;
      packet = e;
      inside = subst (λ x. node_in x < length rs) (read_at flight_of fs system.NoPacket q f below e) (p q below);
      router = h ∙ ap₂ (λ (k : List Router) v. get_or k v r) i j;
    }

-- it has become g
pub hop_inside : (rs : List Router) (fs : List Flight) (q : ℕ) (r : Router) (f g : Flight) → At rs fs q r f →
    RoutersInPlace rs → {A E : Type 0} (o : Result A E) →
    OnOk o (flight_of g ≡ moved (λ u. model r) (flight_of f)) → OnErr o (SameFlight f g) →
    node_in (flight_of g) < length rs
hop_inside rs fs q r f g h p (Ok x) m s =
    let i = in_place rs (node_in (flight_of f)) r p h.inside h.router in
    subst (λ y. node_in y < length rs) (sym m) (moved_inside (length rs) r (flight_of f) i.1 h.inside)
hop_inside rs fs q r f g h p (Err e) m s = subst (λ y. node_in y < length rs) (sym s.flight) h.inside

module _ (q : ℕ) (r : Router) (f g : Flight) (old new : Network) where
  abbrev rs : List Router
  rs = vec_items old.routers

  abbrev fs : List Flight
  fs = vec_items old.flights

  module _ (h : At rs fs q r f) (w : WithPackets (set fs q g) old new) where
    flight_here : flight_at fs q ≡ flight_of f
    flight_here = read_at flight_of fs system.NoPacket q f h.below h.packet

    router_here : router_at rs (node_in (flight_of f)) ≡ model r
    router_here = read_at model rs outside (node_in (flight_of f)) r h.inside h.router

    goes : goes_to (system old) q ≡ next_nodes (model r) (flight_of f)
    goes =
        ap (λ x. next_nodes (router_at rs (node_in x)) x) flight_here ∙
        ap (λ s. next_nodes s (flight_of f)) router_here

    moves : flight_of g ≡ moved (λ u. model r) (flight_of f) → path_of g ≡ path_of f ++ next_nodes (model r) (flight_of f) →
        Hops q old new
    moves m p =
        record {
          is = w.is ∙ ap (with_flights (system old)) (fun_ext (set_at flight_of fs system.NoPacket q g _ h.below flight));
          path =
              ap (λ l. path_at l q) w.packets ∙ (set_at path_of fs [] q g (path_of g) h.below refl q ∙
              (cond-true (eqb q q) _ _ (eq-eqb q q refl) ∙
              (p ∙ ap₂ (λ a b. a ++ b) (sym (read_at path_of fs [] q f h.below h.packet)) (sym goes))));
          packets = ap length w.packets ∙ length-set fs q g;
          apart = record {
            nodes = w.nodes;
            paths = λ k d.
                ap (λ l. path_at l k) w.packets ∙
                (set_at path_of fs [] q g (path_of g) h.below refl k ∙ cond-false (eqb k q) _ _ (ne_eqb k q d));
            over = w.over;
          };
        }
      where
        flight : flight_of g ≡ moved (router_at rs) (flight_at fs q)
        flight = m ∙ sym (ap (moved (router_at rs)) flight_here ∙ there (router_at rs) (model r) (flight_of f) router_here)

    stays : SameFlight f g → Unchanged old new
    stays s =
        record {
          is = w.is ∙ ap (λ l. with_flights (system old) (λ k. get_or l k system.NoPacket)) (map-set_same flight_of fs q g f (s.flight ∙ ap flight_of h.packet));
          beside = record {
            nodes = w.nodes;
            packets = ap length w.packets ∙ length-set fs q g;
            paths = λ p.
                ap (λ l. path_at l p) w.packets ∙
                ap (λ l. get_or l p []) (map-set_same path_of fs q g f (s.path ∙ ap path_of h.packet));
          };
          over = w.over;
        }

    pub hops : {A E : Type 0} (o : Result A E) → OnOk o (flight_of g ≡ moved (λ u. model r) (flight_of f)) →
        OnOk o (path_of g ≡ path_of f ++ next_nodes (model r) (flight_of f)) → OnErr o (SameFlight f g) →
        OnOk o (Hops q old new) × OnErr o (Unchanged old new)
    hops (Ok x) m p s = (moves m p, tt)
    hops (Err e) m p s = (tt, stays s)
