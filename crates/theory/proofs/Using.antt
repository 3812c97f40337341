-- Where a path uses a link, and that every node is clear of it on one side or the other. Assumes nothing.
use Rattle.std.proofs.Common.{◌≡◌, ℕ, ◌+◌, true, Some, Option, sym, ap, ◌∙◌, subst, inl, inr, arith}
use Rattle.std.proofs.lemmas.Bool.{both_ways, cases_Bool, or_cases}
use Rattle.theory.specs.NextHop.{next_hop, uses}
use Rattle.theory.specs.Distance.{distance}
use Rattle.theory.specs.Network.{joins, Network, Lawful, LinkId}
use Rattle.theory.specs.RepairLaws.{Either, OneEnd}
use Rattle.theory.proofs.DistanceLaws.{distance_self, distance_over, distance_by_lem, distance_symmetric}
use Rattle.theory.proofs.NextHops.{next_hop_is}
use Rattle.theory.proofs.Joins.{same_link_lem}
use Rattle.theory.proofs.HopPaths.{by_next_hops, uses_stop, uses_to}
use Rattle.theory.proofs.Paths.{some_inj}

pub same_some : (f : Option ℕ) (b c : ℕ) → f ≡ Some b → f ≡ Some c → b ≡ c
same_some f b c p q = some_inj b c (sym p ∙ q)

-- where a path uses the link: it comes to s, whose next hop is the other end f, and costs what it costs to s and from there
pub record Crossing (z : Network) (r : LinkId) (d a : ℕ) : Type 0 where
  pub s : ℕ
  pub f : ℕ
  pub before : ℕ
  pub after : ℕ
  pub link : joins r s f ≡ true
  pub hop : next_hop z d s ≡ Some f
  pub to_it : distance z s a ≡ Some before
  pub from_it : distance z d s ≡ Some after
  pub whole : distance z d a ≡ Some (before + after)

pub uses_at : (z : Network) → Lawful z → (r : LinkId) (d a : ℕ) → uses z r d a ≡ true → Crossing z r d a
uses_at z g r d = by_next_hops z g d (λ a. uses z r d a ≡ true → Crossing z r d a)
    (λ a p t. absurd (both_ways (uses z r d a) (uses_stop z r d a p) t))
    (λ a e p i t.
    let x = (next_hop_is z d a e p).near in
    elim (or_cases (joins r a e) (uses z r d e) (sym (uses_to z g r d a e p) ∙ t)) [
      | inl h ↦
          record { s = a; f = e; before = 0; after = z.cost a e + x.rest; link = h; hop = p; to_it = distance_self z g a; from_it = x.here; whole = x.here ∙ ap Some (omega arith) }
      | inr h ↦
          let c = i h in
          let j = distance_over z g c.s a e c.before x.link c.to_it in
          let k = distance_by_lem z g d c.s a j.0 c.after j.1 c.from_it in
          let u : x.rest ≡ c.before + c.after = same_some (distance z d e) x.rest (c.before + c.after) x.there c.whole in
          let v : k.0 ≡ z.cost a e + x.rest = same_some (distance z d a) k.0 (z.cost a e + x.rest) k.1 x.here in
          let w : j.0 ≡ z.cost a e + c.before = omega (arith, j.2, k.2) in
          record { s = c.s; f = c.f; before = j.0; after = c.after; link = c.link; hop = c.hop; to_it = j.1; from_it = c.from_it; whole = x.here ∙ ap Some (omega arith) }
    ])

-- a path from s that uses the link between s and f begins with it
pub first_link : (z : Network) → Lawful z → (r : LinkId) (s f x : ℕ) → joins r s f ≡ true → uses z r x s ≡ true → next_hop z x s ≡ Some f
first_link z g r s f x e t =
    let c = uses_at z g r x s t in
    elim (same_link_lem r s f c.s c.f e c.link) [
      | inl h ↦ subst (λ v. next_hop z x s ≡ Some v) h.1 (subst (λ v. next_hop z x v ≡ Some c.f) h.0 c.hop)
      | inr h ↦
          let n = (next_hop_is z x c.s c.f c.hop).near in
          let u : c.after ≡ z.cost c.s c.f + n.rest = same_some (distance z x c.s) c.after (z.cost c.s c.f + n.rest) c.from_it n.here in
          let v : c.before + c.after ≡ n.rest = same_some (distance z x s) (c.before + c.after) n.rest c.whole (subst (λ v. distance z x v ≡ Some n.rest) h.1 n.there) in
          absurd (omega (arith, n.link))
    ]

-- over a link to d the distance falls, so that the other end doesn't send back
pub one_end : OneEnd
one_end z g s f d h k =
    let m = (next_hop_is z d s f h).near in
    let n = (next_hop_is z d f s k).near in
    let u : z.cost f s + n.rest ≡ m.rest = same_some (distance z d f) (z.cost f s + n.rest) m.rest n.here m.there in
    let v : z.cost s f + m.rest ≡ n.rest = same_some (distance z d s) (z.cost s f + m.rest) n.rest m.here n.there in
    omega (arith, n.link)

-- a path to d that uses the link, where s sends over it to d, comes to s
pub second_link : (z : Network) → Lawful z → (r : LinkId) (s f d x : ℕ) → joins r s f ≡ true → next_hop z d s ≡ Some f → uses z r d x ≡ true → (p : ℕ) × (q : ℕ) × (distance z s x ≡ Some p) × (distance z d s ≡ Some q) × (distance z d x ≡ Some (p + q))
second_link z g r s f d x e h t =
    let c = uses_at z g r d x t in
    elim (same_link_lem r s f c.s c.f e c.link) [
      | inl k ↦ (c.before, c.after, subst (λ v. distance z v x ≡ Some c.before) k.0 c.to_it, subst (λ v. distance z d v ≡ Some c.after) k.0 c.from_it, c.whole)
      | inr k ↦ absurd (one_end z g s f d h (subst (λ v. next_hop z d f ≡ Some v) k.1 (subst (λ v. next_hop z d v ≡ Some c.f) k.0 c.hop)))
    ]

not_both : (z : Network) → Lawful z → (r : LinkId) (s f d x : ℕ) → joins r s f ≡ true → next_hop z d s ≡ Some f → uses z r x s ≡ true → uses z r d x ≡ true → ⊥
not_both z g r s f d x e h t u =
    let m = (next_hop_is z d s f h).near in
    let n = (next_hop_is z x s f (first_link z g r s f x e t)).near in
    let c = second_link z g r s f d x e h u in
    let k = distance_by_lem z g d f x n.rest m.rest (distance_symmetric z g f x ∙ n.there) m.there in
    let i : c.0 ≡ z.cost s f + n.rest = same_some (distance z s x) c.0 (z.cost s f + n.rest) c.2 (distance_symmetric z g s x ∙ n.here) in
    let j : c.1 ≡ z.cost s f + m.rest = same_some (distance z d s) c.1 (z.cost s f + m.rest) c.3 m.here in
    let l : k.0 ≡ c.0 + c.1 = same_some (distance z d x) k.0 (c.0 + c.1) k.1 c.4 in
    omega (arith, k.2, m.link)

pub either : Either
either z g r s f d e h x =
    elim (cases_Bool (uses z r x s)) [
      | inr p ↦ inl p
      | inl p ↦ elim (cases_Bool (uses z r d x)) [ inr q ↦ inr q | inl q ↦ absurd (not_both z g r s f d x e h p q) ]
    ]
