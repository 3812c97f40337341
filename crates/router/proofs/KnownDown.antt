-- What the tables say of the next hop that is used, and of the repair where it lies over the link that is down.
use Rattle.std.proofs.Common.{◌≡◌, ℕ, ◌+◌, ◌*◌, ◌<◌, ◌≤◌, Bool, true, false, cond, ◌&&◌, eqb, List, length, get_or, Some, None, Option, slice_index_or, sym, refl, ap, ◌∙◌, ap₂, inl, inr, arith}
use mathlib.Core.Path.{fun_ext}
use Rattle.std.proofs.lemmas.List.{get_or_default}
use Rattle.std.proofs.lemmas.Bool.{both_ways, eqb-true, eq-eqb, and_from, and_parts, or_left, cond-true, cases_lt}
use Rattle.theory.specs.Network.{Network, Lawful, LinkId, joins, without}
use Rattle.theory.specs.NextHop.{next_hop, path}
use Rattle.theory.specs.Repair as theory
use Rattle.theory.proofs.Joins.{or_comm, joins_ends}
use Rattle.theory.proofs.NextHops.{next_hop_is, eq_same}
use Rattle.theory.proofs.Paths.{none_some}
use Rattle.theory.proofs.Reached.{reached}
use Rattle.theory.proofs.Without.{lawful_without, link_left_lem}
use Rattle.protocol.specs.Router.{Router, Transition, known_failure, links_in, entry}
use Rattle.protocol.specs.Packet.{Decision, down_between, known_down, put_repair, repair_in}
use Rattle.std.specs.Option.{option_map}
use Rattle.types.specs.declared.segment.Segment.{Segment}
use Rattle.routes.proofs.Steps.{hop_outside}
use Rattle.repairs.specs.Entries.{meaning}
use Rattle.repairs.specs.declared.repair.Entry.{Entry}
use Rattle.repairs.specs.declared.repair.Entry.TheVariants.{Unused, Apart, Via}
use Rattle.router.specs.Tables.{OwnRepairs, found, same_laid}

-- a next hop is a neighbour, and only for a destination in the network
hop_within : (z : Network) → Lawful z → (d a e : ℕ) → next_hop z d a ≡ Some e → (d < z.n) × (e < z.n) × (0 < z.cost a e)
hop_within z g d a e h =
    let n = (next_hop_is z d a e h).near in
    let w = g.within a e n.link in
    elim (cases_lt d z.n) [
      | inl l ↦ (l, w.1, n.link)
      | inr l ↦ absurd (none_some e (hop_outside z g d a (λ k. omega (arith, k.0)) ∙ h))
    ]

-- outside the network there is none
pub entry_outside : (s : Router) → Lawful s.links → (aim : ℕ) → s.links.n ≤ aim → None ≡ entry s aim
entry_outside s g aim h = go s.transition
  where
    go : (o : Option Transition) → None ≡ next_hop (links_in s.links aim o) aim s.me
    go None = hop_outside s.links g aim s.me (λ k. omega (arith, k.0))
    go (Some t) = by (t.switched aim)
      where
        by : (b : Bool) → None ≡ next_hop (cond b (without t.link s.links) s.links) aim s.me
        by true = hop_outside (without t.link s.links) (lawful_without t.link s.links g) aim s.me (λ k. omega (arith, k.0))
        by false = hop_outside s.links g aim s.me (λ k. omega (arith, k.0))

own_link_lem : (s f : ℕ) → joins (record { a = s; b = f }) s f ≡ true
own_link_lem s f = or_left (eqb s s && eqb f f) (eqb s f && eqb f s) (and_from (eqb s s) (eqb f f) (eq-eqb s s refl) (eq-eqb f f refl))

-- a link by its ends in either order
same_joins : (r : LinkId) (s f x y : ℕ) → joins r s f ≡ true → joins r x y ≡ joins (record { a = s; b = f }) x y
same_joins r s f x y h = elim (joins_ends r s f h) [
  | inl k ↦ sym (ap₂ (λ a b. joins (record { a = a; b = b }) x y) k.0 k.1)
  | inr k ↦ sym (ap₂ (λ a b. joins (record { a = a; b = b }) x y) k.1 k.0) ∙ or_comm (eqb x f && eqb y s) (eqb x s && eqb y f)
]

same_without : (z : Network) (r : LinkId) (s f : ℕ) → joins r s f ≡ true → without r z ≡ without (record { a = s; b = f }) z
same_without z r s f h = ap (λ c. record { n = z.n; cost = c }) (fun_ext (λ x. fun_ext (λ y. ap (λ b. cond b 0 (z.cost x y)) (same_joins r s f x y h))))

-- what is laid up for the link is its repair
laid_repair : (z : Network) → Lawful z → (r : LinkId) (s f d : ℕ) → joins r s f ≡ true → next_hop z d s ≡ Some f → theory.laid z s f d ≡ theory.laid_by (theory.repair z r s d)
laid_repair z g r s f d j h =
    let o : LinkId = record { a = s; b = f } in
    cond-true (theory.sends z s f d) (theory.laid_by (theory.repair z o s d)) theory.Unused (eq_same _ _ h) ∙
    ap theory.laid_by (sym (reached z g o s f d (own_link_lem s f) h) ∙ (ap (λ y. theory.last_reached z s f s (path y d s)) (sym (same_without z r s f j)) ∙ reached z g r s f d j h))

found_is : (e : Entry) (o : Option theory.Repair) → same_laid (meaning e) (theory.laid_by o) ≡ true → found e ≡ o
found_is Unused None t = refl
found_is Unused (Some y) t = absurd (both_ways false refl t)
found_is Apart None t = refl
found_is Apart (Some y) t = absurd (both_ways false refl t)
found_is (Via x) None t = absurd (both_ways false refl t)
found_is (Via x) (Some y) t =
    let k = and_parts (eqb x.p y.p) (eqb x.q y.q) t in
    ap₂ theory.via (eqb-true x.p y.p k.0) (eqb-true x.q y.q k.1)

-- over the link that is down it hasn't switched
not_switched : (z : Network) → Lawful z → (l : LinkId) (u aim f : ℕ) → true ≡ joins l u f → (b : Bool) → Some f ≡ next_hop (cond b (without l z) z) aim u → next_hop z aim u ≡ Some f
not_switched z g l u aim f j true h =
    absurd (both_ways (joins l u f) (link_left_lem l z u f (next_hop_is (without l z) aim u f (sym h)).near.link) (sym j))
not_switched z g l u aim f j false h = sym h

old_hop : (s : Router) → Lawful s.links → (f aim : ℕ) → Some f ≡ entry s aim → true ≡ known_down s s.me f → next_hop s.links aim s.me ≡ Some f
old_hop s g f aim = go s.transition
  where
    go : (o : Option Transition) → Some f ≡ next_hop (links_in s.links aim o) aim s.me → true ≡ down_between (option_map (λ t. t.link) o) s.me f → next_hop s.links aim s.me ≡ Some f
    go None h d = absurd (both_ways true d refl)
    go (Some t) h d = not_switched s.links g t.link s.me aim f d (t.switched aim) h

repair_found : (s : Router) → Lawful s.links → (f aim : ℕ) → Some f ≡ entry s aim → true ≡ known_down s s.me f →
    (e : Entry) → same_laid (meaning e) (theory.laid s.links s.me f aim) ≡ true →
    (go : List Segment → Decision) (ss : List Segment) → put_repair go ss (found e) ≡ repair_in s go aim ss (known_failure s)
repair_found s g f aim h d e t go ss = by (known_failure s) d
  where
    by : (x : Option LinkId) → true ≡ down_between x s.me f → put_repair go ss (found e) ≡ repair_in s go aim ss x
    by None k = absurd (both_ways true k refl)
    by (Some l) k =
        let w = laid_repair s.links g l s.me f aim (sym k) (old_hop s g f aim h d) in
        ap (put_repair go ss) (found_is e (theory.repair s.links l s.me aim) (ap (same_laid (meaning e)) (sym w) ∙ t))

-- that next hop is a neighbour
pub old_within : (s : Router) → Lawful s.links → (f aim : ℕ) → Some f ≡ entry s aim → true ≡ known_down s s.me f → (aim < s.links.n) × (f < s.links.n) × (0 < s.links.cost s.me f)
old_within s g f aim h d = hop_within s.links g aim s.me f (old_hop s g f aim h d)

-- the own table has it
laid_found : (s : Router) → Lawful s.links → (l : List Entry) → OwnRepairs s.links s.me s.links.n l → (f aim : ℕ) → Some f ≡ entry s aim → true ≡ known_down s s.me f →
    (go : List Segment → Decision) (ss : List Segment) → put_repair go ss (found (slice_index_or l (f * 64 + aim) Unused)) ≡ repair_in s go aim ss (known_failure s)
laid_found s g l o f aim h d =
    let w = old_within s g f aim h d in
    repair_found s g f aim h d _ (o f aim (w.1, w.0, w.2))

-- what is read there, whatever stands for what lies beyond the table
pub laid_at : (s : Router) → Lawful s.links → (l : List Entry) → OwnRepairs s.links s.me s.links.n l → (f aim : ℕ) → Some f ≡ entry s aim → true ≡ known_down s s.me f →
    (i : ℕ) (z e : Entry) → i ≡ f * 64 + aim → i < length l → get_or l i z ≡ e →
    (go : List Segment → Decision) (ss : List Segment) → put_repair go ss (found e) ≡ repair_in s go aim ss (known_failure s)
laid_at s g l o f aim h d i z e j b r go ss =
    let at : slice_index_or l (f * 64 + aim) Unused ≡ e = ap (λ k. get_or l k Unused) (sym j) ∙ (get_or_default l i Unused z b ∙ r) in
    ap (λ x. put_repair go ss (found x)) (sym at) ∙ laid_found s g l o f aim h d go ss
