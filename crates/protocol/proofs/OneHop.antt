-- One hop of a packet that K hops and R repairs are enough for: delivered, or sent on where one hop less is.
use Rattle.std.proofs.Common.{◌≡◌, ℕ, suc, ◌+◌, ◌*◌, ◌<◌, ◌≤◌, Bool, true, false, eqb, List, [], ◌∷◌, length, is_some, Some, None, sym, refl, ap, ◌∙◌, subst, inl, inr, arith}
use Rattle.std.proofs.lemmas.Bool.{both_ways, eq-eqb, ne_eqb, cases_eq, cases_Bool, cond-true, cond-false}
use Rattle.protocol.specs.Delivery.{Reachable, enough_hops, aim_at, blocked}
use Rattle.protocol.specs.Failed.{Done}
use Rattle.protocol.specs.Order.{InOrder}
use Rattle.protocol.specs.System.{count_if}
use Rattle.protocol.specs.Packet.{towards, by_segments, forward_by, Decision, Deliver, Send}
use Rattle.protocol.proofs.Forwarding.{less, towards_repair, strip_none, strip_other, strip_own, strip_link, forward_on, at_dest, not_at_dest, blocked_by, open_next, towards_next, over_link_lem}
use Rattle.protocol.proofs.Touched.{uses_hop, uses_on, left_on, steady}
use Rattle.protocol.proofs.Shape.{build, over, knows, entry_new, entry_old, entry_steady, Shape}
use Rattle.protocol.proofs.Enough.{due, fits_base, Plain, plain_from, OnRepair, Fits, is_clear, is_behind, is_ahead, Ready, plain, on_repair, fits_at}
use Rattle.theory.specs.NextHop.{next_hop, uses}
use Rattle.theory.specs.Distance.{distance}
use Rattle.theory.specs.Network.{joins, without, Network, Lawful, LinkId}
use Rattle.theory.proofs.Repairs.{repaired}
use Rattle.theory.proofs.NextHops.{some_of, of_some, next_hop_is, next_hop_where}
use Rattle.theory.proofs.Without.{link_left_lem, link_kept, lawful_without, not_nearer, untouched}
use Rattle.theory.proofs.HopPaths.{hops, hops_most, hops_fall}
use Rattle.types.specs.Packet.{Packet}
use Rattle.types.specs.Segments.{strip}
use Rattle.types.specs.declared.segment.Segment.{Segment}
use Rattle.types.specs.declared.segment.Segment.TheVariants.{Node, Link}

pub data Next (z : Network) (r : LinkId) (f : Done) (m : ℕ) (p : Packet) (K R u : ℕ) (D : Decision) : Type 0 where
  arrives : u ≡ p.destination → D ≡ Deliver → Next z r f m p K R u D
  sends_on : (v : ℕ) (ts : List Segment) → v < z.n → D ≡ Send v (less p ts) → Ready z r f m p.destination K R v ts → Next z r f m p K R u D

next_as : {z : Network} {r : LinkId} {f : Done} {m : ℕ} {p : Packet} {K R u : ℕ} {D E : Decision} → E ≡ D → Next z r f m p K R u D → Next z r f m p K R u E
next_as e (arrives h k) = arrives h (e ∙ k)
next_as e (sends_on v ts b k q) = sends_on v ts b (e ∙ k) q

-- one repair less where the router puts one
pub record Hopped (z : Network) (r : LinkId) (f : Done) (m : ℕ) (p : Packet) (K R u : ℕ) (blocks : Bool) (D : Decision) : Type 0 where
  pub R' : ℕ
  pub paid : count_if blocks R' ≤ R
  pub next : Next z r f m p K R' u D

freely : {z : Network} {r : LinkId} {f : Done} {m : ℕ} {p : Packet} {K R u : ℕ} {blocks : Bool} {D : Decision} → blocks ≡ false → Next z r f m p K R u D → Hopped z r f m p K R u blocks D
freely {R = R} e n = record { R' = R; paid = subst (λ (b : Bool). count_if b R ≤ R) (sym e) (omega arith); next = n }

-- own segments are taken off: what is left
data Bare (z : Network) (r : LinkId) (f : Done) (m : ℕ) (p : Packet) (K R u : ℕ) (ss : List Segment) : Type 0 where
  at_end : strip u ss ≡ [] → u ≡ p.destination → Bare z r f m p K R u ss
  at_link : (a b : ℕ) (ts : List Segment) → strip u ss ≡ Link a b ∷ ts → length ts ≤ m → Plain z r f p.destination K R u (Link a b ∷ ts) →
      Bare z r f m p K R u ss
  at_aim : (aim base later c : ℕ) (ts : List Segment) → strip u ss ≡ ts → length ts ≤ m → (u ≡ aim → ⊥) → distance (without r z) aim u ≡ Some c → Fits z r f aim base later K R u →
      ((g : Done) (k l v : ℕ) → is_some (distance (without r z) aim v) ≡ true → Fits z r g aim base later k l v → Plain z r g p.destination k l v ts) →
      ((G : ℕ → List LinkId) (S : Shape) (go : List Segment → Decision) → by_segments (build z r G u S) p go ts ≡ towards (build z r G u S) p go aim ts) →
      aim_at u p.destination ts ≡ Some aim → Bare z r f m p K R u ss

bare_as : {z : Network} {r : LinkId} {f : Done} {m : ℕ} {p : Packet} {K R u : ℕ} {ss ts : List Segment} → strip u ss ≡ strip u ts → Bare z r f m p K R u ts → Bare z r f m p K R u ss
bare_as e (at_end s h) = at_end (e ∙ s) h
bare_as e (at_link a b xs s l h) = at_link a b xs (e ∙ s) l h
bare_as e (at_aim aim base later c xs s l ne q h k t a) = at_aim aim base later c xs (e ∙ s) l ne q h k t a

bare : (z : Network) (r : LinkId) (f : Done) (m : ℕ) (p : Packet) (K R u : ℕ) (ss : List Segment) →
    length ss ≤ m → Plain z r f p.destination K R u ss → Bare z r f m p K R u ss
bare z r f m p K R u [] le h = elim (cases_eq u p.destination) [
  | inl e ↦ at_end (strip_none u) e
  | inr e ↦
      let w = some_of (distance (without r z) p.destination u) h.0 in
      at_aim p.destination 1 0 w.0 [] (strip_none u) le e w.1 h.1 (λ g k l v i q. (i, q)) (λ G S go. not_at_dest z r G u S p go e)
      (cond-false (eqb u p.destination) None (Some p.destination) (ne_eqb u p.destination e))
]
bare z r f m p K R u (Node x ∷ ss) le h = elim (cases_eq u x) [
  | inl e ↦
      let b = fits_base h.2 in
      let reach = subst (λ y. Reachable (without r z) p.destination y ss) (sym e) h.1 in
      bare_as (strip_own u x ss e) (bare z r f m p K R u ss (omega arith) (plain_from z r f p.destination K R u ss reach b.0 b.1))
  | inr e ↦
      let w = some_of (distance (without r z) x u) h.0 in
      at_aim x (enough_hops z.n (length ss)) (suc (length ss)) w.0 (Node x ∷ ss) (strip_other u x ss e) le e w.1 h.2
      (λ g k l v i q. (i, h.1, q)) (λ G S go. refl) refl
]
bare z r f m p K R u (Link a b ∷ ss) le h = at_link a b ss (strip_link u a b ss) (omega arith) h

module _ (z : Network) (g : Lawful z) (r : LinkId) (G : ℕ → List LinkId) (f : Done) (m : ℕ) (few : m ≤ 3) (p : Packet) (pos : 0 < p.hop_limit) (u : ℕ) (S : Shape)
    (is : (d : ℕ) → over S d ≡ f d u) (ends : (v : ℕ) → joins r u v ≡ true → knows S ≡ true) (order : InOrder z r f) where
  -- one hop on a repair
  repair_next : (k K R : ℕ) (ss : List Segment) → OnRepair z r m p.destination (suc K) R u ss →
      Next z r f m p K R u (forward_by (suc k) (build z r G u S) p ss) × (blocked_by (build z r G u S) u p.destination (strip u ss) ≡ false)
  repair_next k K R ss h = elim (cases_eq u h.p) [
    | inl e ↦
        let ts = Link h.p h.q ∷ h.rest in
        let off : strip u ss ≡ ts = ap (λ l. strip u l) h.is ∙ (strip_own u h.p ts e ∙ strip_link u h.p h.q h.rest) in (
          sends_on h.q h.rest (g.within h.p h.q h.link).1
              (forward_on k z r G u S p ss ts off ∙ over_link_lem z r G u S p (forward_by k (build z r G u S) p) h.p h.q h.rest (sym e) h.link h.clear_over pos)
              (plain h.few (h.then f K R (omega (arith, h.enough)) h.spare)),
          ap (λ l. blocked_by (build z r G u S) u p.destination l) off,
        )
    | inr e ↦
        let ts = Node h.p ∷ (Link h.p h.q ∷ h.rest) in
        let off : strip u ss ≡ ts = ap (λ l. strip u l) h.is ∙ strip_other u h.p (Link h.p h.q ∷ h.rest) e in
        let w = steady z g r h.p u h.c e h.clear_to h.to_p in
        let v = w.0 in
        let n = w.1.near in
        let enters = entry_steady z r G u h.p v S w.1 in (
          sends_on v ts (g.within u v n.link).1
              (forward_on k z r G u S p ss ts off ∙ towards_next z r G u S p (forward_by k (build z r G u S) p) h.p v ts enters w.1.over pos)
              (on_repair (record {
                from = h.from;
                aim = h.aim;
                touched = h.touched;
                p = h.p;
                q = h.q;
                c = n.rest;
                rest = h.rest;
                is = refl;
                to_p = n.there;
                clear_to = w.1.clear;
                link = h.link;
                clear_over = h.clear_over;
                few = h.few;
                J = h.J;
                L = h.L;
                enough = omega (arith, h.enough, hops_fall z g h.p u v w.1.old);
                spare = h.spare;
                then = h.then;
              })),
          ap (λ l. blocked_by (build z r G u S) u p.destination l) off ∙ open_next z r G u p.destination h.p v S ts refl enters w.1.over,
        )
  ]

  -- by a new next hop
  step_new : (aim base later K R v : ℕ) → next_hop (without r z) aim u ≡ Some v → due z r f aim + hops (without r z) aim u + z.n + (2 * z.n + base) ≤ suc K → suc later ≤ R → Fits z r f aim base later K R v
  step_new aim base later K R v h le l =
      let a = hops_fall (without r z) (lawful_without r z g) aim u v h in
      let b = hops_most z aim v in
      fits_at z r f aim base later K R v l (omega arith) (omega arith) (omega arith)

  -- by an old next hop, up towards the end of the failed link: by the order, the next has not switched either
  step_old : (aim base later K R v : ℕ) → next_hop z aim u ≡ Some v → joins r u v ≡ false → uses z r aim u ≡ true → f aim u ≡ false → due z r f aim + hops z aim u + (2 * z.n + base) ≤ suc K → suc later ≤ R → Fits z r f aim base later K R v
  step_old aim base later K R v h j t y le l =
      let nv : f aim v ≡ false = elim (cases_Bool (f aim v)) [ inl e ↦ absurd (both_ways (f aim u) y (order aim u v e h t j)) | inr e ↦ e ] in
      is_ahead (uses_on z g r aim u v h t j) nv (omega (arith, hops_fall z g aim u v h)) l

  -- one hop towards an aim
  aim_next : (k K R aim base later c : ℕ) (ts : List Segment) → length ts ≤ m → (u ≡ aim → ⊥) → distance (without r z) aim u ≡ Some c →
      ((h : Done) (k l v : ℕ) → is_some (distance (without r z) aim v) ≡ true → Fits z r h aim base later k l v → Plain z r h p.destination k l v ts) →
      aim_at u p.destination ts ≡ Some aim → Fits z r f aim base later (suc K) R u →
      let s = build z r G u S in Hopped z r f m p K R u (blocked_by s u p.destination ts) (towards s p (forward_by (suc k) s p) aim ts)
  aim_next k K R aim base later c ts le ne left keeps at (is_clear t e l) =
      let q = not_nearer z g r aim u c left in
      let w = steady z g r aim u q.0 ne t q.1 in
      let v = w.0 in
      let n = w.1.near in
      let enters = entry_steady z r G u aim v S w.1 in
      freely (open_next z r G u p.destination aim v S ts at enters w.1.over)
      (sends_on v ts (g.within u v n.link).1 (towards_next z r G u S p (forward_by (suc k) (build z r G u S) p) aim v ts enters w.1.over pos)
      (plain le (keeps f K R v (of_some (distance (without r z) aim v) n.rest w.1.left) (is_clear w.1.clear (omega (arith, hops_fall z g aim u v w.1.old)) l))))
  aim_next k K R aim base later c ts le ne left keeps at (is_behind t y e l) =
      let w = next_hop_where (without r z) (lawful_without r z g) aim u c ne left in
      let v = w.0 in
      let n = (next_hop_is (without r z) aim u v w.1).near in
      let j = link_left_lem r z u v n.link in
      let enters = entry_new z r G u aim v S (is aim ∙ y) w.1 in
      freely (open_next z r G u p.destination aim v S ts at enters j)
      (sends_on v ts (g.within u v (link_kept r z u v n.link)).1 (towards_next z r G u S p (forward_by (suc k) (build z r G u S) p) aim v ts enters j pos)
      (plain le (keeps f K R v (of_some (distance (without r z) aim v) n.rest n.there) (step_new aim base later K R v w.1 e l))))
  aim_next k K R aim base later c ts le ne left keeps at (is_ahead t y e l) =
      let w = uses_hop z r aim u t in
      let v = w.0 in
      let n = (next_hop_is z aim u v w.1).near in
      elim (cases_Bool (joins r u v)) [
        | inr j ↦
            let enters = entry_old z r G u aim v S (is aim ∙ y) w.1 in
            freely (open_next z r G u p.destination aim v S ts at enters j)
            (sends_on v ts (g.within u v n.link).1 (towards_next z r G u S p (forward_by (suc k) (build z r G u S) p) aim v ts enters j pos)
            (plain le (keeps f K R v (let b = left_on z g r aim u v c w.1 j left in of_some (distance (without r z) aim v) b.0 b.1) (step_old aim base later K R v w.1 j t y e l))))
        | inl j ↦
            let x = repaired z g r u v aim c j w.1 left in
            let s = x.2 in
            let a = hops_fall z g aim u v w.1 in
            let b = hops_most z x.0.p u in
            let d = hops_most z aim x.0.q in
            record {
              R' = later;
              paid = most (blocked_by (build z r G u S) u p.destination ts);
              next = next_as
                  (towards_repair z r G u S p (forward_by (suc k) (build z r G u S) p) aim v x.0 ts (ends v j) (is aim ∙ y) w.1 j x.1 (omega arith))
                  (repair_next k K later (Node x.0.p ∷ (Link x.0.p x.0.q ∷ ts)) (record {
                    from = u;
                    aim = aim;
                    touched = t;
                    p = x.0.p;
                    q = x.0.q;
                    c = s.first;
                    rest = ts;
                    is = refl;
                    to_p = s.to_p;
                    clear_to = s.clear_to;
                    link = link_kept r z x.0.p x.0.q s.link_left;
                    clear_over = s.clear_over;
                    few = le;
                    J = hops z aim x.0.q + base;
                    L = later;
                    enough = omega arith;
                    spare = omega arith;
                    then = λ h i j e l. keeps h i j x.0.q (of_some (distance (without r z) aim x.0.q) s.rest ((untouched z g r aim x.0.q s.clear_from).same_distance ∙ s.from_q)) (is_clear s.clear_from e l);
                  })).0;
            }
      ]
    where
      most : (b : Bool) → count_if b later ≤ R
      most true = l
      most false = omega arith

  -- one hop
  pub ready_next : (k K R : ℕ) (ss : List Segment) → Ready z r f m p.destination (suc K) R u ss →
      Hopped z r f m p K R u (blocked_by (build z r G u S) u p.destination (strip u ss)) (forward_by (suc (suc k)) (build z r G u S) p ss)
  ready_next k K R ss (on_repair h) =
      let n = repair_next (suc k) K R ss h in
      freely n.1 n.0
  ready_next k K R ss (plain le h) = pick (bare z r f m p (suc K) R u ss le h)
    where
      pick : Bare z r f m p (suc K) R u ss →
          Hopped z r f m p K R u (blocked_by (build z r G u S) u p.destination (strip u ss)) (forward_by (suc (suc k)) (build z r G u S) p ss)
      pick (at_end s e) =
          freely
          (ap (λ l. blocked_by (build z r G u S) u p.destination l) s ∙
          ap (λ o. blocked (build z r G u S) o) (cond-true (eqb u p.destination) None (Some p.destination) (eq-eqb u p.destination e)))
          (arrives e (forward_on (suc k) z r G u S p ss [] s ∙ at_dest z r G u S p (forward_by (suc k) (build z r G u S) p) e))
      pick (at_link a b ts s le q) =
          let j = link_left_lem r z a b q.1 in
          let c = link_kept r z a b q.1 in
          freely (ap (λ l. blocked_by (build z r G u S) u p.destination l) s)
          (sends_on b ts (g.within a b c).1
          (forward_on (suc k) z r G u S p ss (Link a b ∷ ts) s ∙ over_link_lem z r G u S p (forward_by (suc k) (build z r G u S) p) a b ts q.0 c j pos)
          (plain le (plain_from z r f p.destination K R b ts q.2 (omega (arith, q.3)) q.4)))
      pick (at_aim aim base later c ts s le ne q ft keeps aims at) =
          let w = aim_next k K R aim base later c ts le ne q keeps at ft in
          record {
            R' = w.R';
            paid = subst (λ l. count_if (blocked_by (build z r G u S) u p.destination l) w.R' ≤ R) (sym s) w.paid;
            next = next_as
                (forward_on (suc k) z r G u S p ss ts s ∙ aims G S (forward_by (suc k) (build z r G u S) p)) w.next;
          }
