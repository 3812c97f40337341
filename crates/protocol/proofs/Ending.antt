-- When nothing more happens, all that can know have switched for all destinations.
use Rattle.std.proofs.Common.{◌≡◌, ℕ, zero, suc, ◌<◌, Bool, true, false, ◌⊎◌, List, [], ◌∷◌, is_some, Some, sym, refl, ap, ◌∙◌, subst, inl, inr, arith}
use Rattle.std.proofs.lemmas.Bool.{both_ways, cases_Bool, and_from}
use Rattle.protocol.specs.Hearing.{waits_for}
use Rattle.protocol.specs.Failed.{Stale, after}
use Rattle.protocol.specs.Progress.{Progress, CalmAgain, CalmFirst, Quiet}
use Rattle.protocol.specs.System.{System}
use Rattle.protocol.specs.Router.{has_link, Router}
use Rattle.protocol.specs.Switching.{all_below, may}
use Rattle.protocol.proofs.Said.{no_message, down_to, over_to}
use Rattle.protocol.proofs.Invariant.{Honest, OpenOk, Noted}
use Rattle.protocol.proofs.Touched.{uses_hop, by_use, some_end, dest_inside, some_leaf, waits_parts, Leaf}
use Rattle.protocol.proofs.Shape.{build, over, knows, Shape, Unaware, Switching, Settled}
use Rattle.protocol.proofs.Links.{joins_self, link_gone, still_gone}
use Rattle.protocol.proofs.Steps.{Held, held}
use Rattle.protocol.proofs.Order.{may_from, none_pending}
use Rattle.theory.specs.NextHop.{uses}
use Rattle.theory.specs.Distance.{distance}
use Rattle.theory.specs.Network.{joins, without, Network, Lawful, LinkId}
use Rattle.theory.proofs.NextHops.{some_of, next_hop_is}
use Rattle.theory.proofs.Joins.{joins_symmetric}
use Rattle.theory.proofs.Without.{cost_left, lawful_without}
use Rattle.theory.proofs.Using.{first_link, one_end}
use Rattle.theory.proofs.HopPaths.{by_next_hops, stop_end}
use Rattle.types.specs.declared.message.Message.{Message}
use Rattle.types.specs.declared.message.Message.TheVariants.{LinkDown}
use Rattle.types.specs.declared.message.Message.TheVariants as message

all_from : (k : ℕ) (p : ℕ → Bool) → ((u : ℕ) → u < k → p u ≡ true) → all_below k p ≡ true
unfolding all_below
all_from zero p h = refl
all_from (suc k) p h = and_from (p k) (all_below k p) (h k (omega arith)) (all_from k p (λ u b. h u (omega arith)))

module _ (z : Network) (g : Lawful z) (r : LinkId) (G : ℕ → List LinkId) (σ : System) (H : Held z r G σ) (Q : Quiet σ) where
  -- who knows has told its neighbours, and it has come
  spread : (u v : ℕ) → knows (H.inv.shape u) ≡ true → 0 < (without r z).cost u v → knows (H.inv.shape v) ≡ true
  spread u v h c = let t = H.inv.told u h v c in H.inv.taken t.0 (down_to r u v) t.1 (Q.came t.0 (down_to r u v) t.1) (joins_self r)

  joined_knows : (a u c : ℕ) → knows (H.inv.shape a) ≡ true → distance (without r z) a u ≡ Some c → knows (H.inv.shape u) ≡ true
  joined_knows a u c h q =
      let w = without r z in
      let gw = lawful_without r z g in
      by_next_hops w gw a (λ y. (c : ℕ) → distance w a y ≡ Some c → knows (H.inv.shape y) ≡ true)
      (λ y p c q. subst (λ x. knows (H.inv.shape x) ≡ true) (sym (stop_end w gw a y c p q).0) h)
      (λ y v p i c q.
      let n = (next_hop_is w a y v p).near in
      spread v y (i n.rest n.there) (omega (arith, n.link, gw.symmetric y v)))
      u c q

  touched_knows : (d u : ℕ) → uses z r d u ≡ true → knows (H.inv.shape u) ≡ true
  touched_knows d =
      by_use z g r d (λ y. knows (H.inv.shape y) ≡ true) (λ a v p j. H.ends a v j)
      (λ a v p t j k. spread v a k (omega (arith, (next_hop_is z d a v p).near.link, cost_left r z a v j, (lawful_without r z g).symmetric a v)))

  -- a switching router that waits for nobody could switch, so that it has
  free : (v d : ℕ) (sw : ℕ → Bool) (pe : ℕ → ℕ → Bool) → H.inv.shape v ≡ Switching sw pe → d < z.n → ((u : ℕ) → pe d u ≡ false) → sw d ≡ true
  free v d sw pe e b none = elim (cases_Bool (sw d)) [
    | inl y ↦ y
    | inr n ↦
        let is = H.inv.is v (H.inv.nodes v (subst (λ X. knows X ≡ true) (sym e) refl)) ∙ ap (λ X. build z r G v X) e in
        absurd (both_ways (may (σ.routers v) d) (Q.still v d) (ap (λ (s : Router). may s d) is ∙ may_from z r G v d sw pe b n none))
  ]

  -- who has switched is no longer waited for
  heard : (v d u : ℕ) (sw : ℕ → Bool) (pe : ℕ → ℕ → Bool) → H.inv.shape v ≡ Switching sw pe → over (H.inv.shape u) d ≡ true → waits_for z r d v u ≡ true → pe d u ≡ false
  heard v d u sw pe e o w =
      let p = waits_parts z r d v u w in
      let j : joins r u v ≡ false = elim (cases_Bool (joins r u v)) [
        | inr x ↦ x
        | inl x ↦ absurd (one_end z g u v d p.1 (first_link z g r v u d (joins_symmetric r v u ∙ x) p.0))
      ] in
      let t = H.inv.spoke u d v o p.2 p.1 j in
      subst (λ X. Noted r X d u) e (H.inv.taken t.0 (over_to r u v d) t.1 (Q.came t.0 (over_to r u v d) t.1) (joins_self r))

  all_touched : (d u : ℕ) → u < z.n → uses z r d u ≡ true → over (H.inv.shape u) d ≡ true
  all_touched d u b t = elim (some_leaf z g r d (λ v. over (H.inv.shape v) d)) [ inl all ↦ all u b t | inr w ↦ absurd (both_ways (over (H.inv.shape w.v) d) w.undone (at w (H.inv.shape w.v) refl)) ]
    where
      at : (w : Leaf z r d (λ v. over (H.inv.shape v) d)) (S : Shape) → H.inv.shape w.v ≡ S → over (H.inv.shape w.v) d ≡ true
      at w (Unaware es) e = absurd (both_ways (knows (H.inv.shape w.v)) (ap knows e) (touched_knows d w.v w.touched))
      at w Settled e = ap (λ X. over X d) e
      at w (Switching sw pe) e =
          let h = uses_hop z r d w.v w.touched in
          ap (λ X. over X d) e ∙ free w.v d sw pe e (dest_inside z g d w.v h.0 h.1) (λ x. elim (cases_Bool (pe d x)) [
            | inr q ↦ q
            | inl q ↦
                let o = (subst (λ X. OpenOk z r w.v X) e (H.inv.unfinished w.v)).0 d x q in
                let p = waits_parts z r d w.v x o in
                heard w.v d x sw pe e (w.children x p.1 p.2) o
          ])

  settles : (u : ℕ) → u < z.n → knows (H.inv.shape u) ≡ true → H.inv.shape u ≡ Settled
  settles u b k = go (H.inv.shape u) refl
    where
      go : (S : Shape) → H.inv.shape u ≡ S → H.inv.shape u ≡ Settled
      go (Unaware es) e = absurd (both_ways (knows (H.inv.shape u)) (ap knows e) k)
      go Settled e = e
      go (Switching sw pe) e =
          let o = subst (λ X. OpenOk z r u X) e (H.inv.unfinished u) in
          absurd (both_ways (all_below z.n sw) o.1 (all_from z.n sw (λ d bd. elim (cases_Bool (uses z r d u)) [
            | inl t ↦ sym (ap (λ X. over X d) e) ∙ all_touched d u b t
            | inr t ↦ free u d sw pe e bd (none_pending z r d u pe (λ v. o.0 d v) t)
          ])))

  ended : (u : ℕ) → u < z.n → is_some (distance z r.a u) ≡ true → σ.routers u ≡ build z r G u Settled
  ended u b e =
      let c = some_of (distance z r.a u) e in
      let k : knows (H.inv.shape u) ≡ true = elim (some_end z g r u c.0 c.1) [
        | inl q ↦ joined_knows r.a u q.0 (H.ends r.a r.b (joins_self r)) q.1
        | inr q ↦ joined_knows r.b u q.0 (H.ends r.b r.a (joins_symmetric r r.b r.a ∙ joins_self r)) q.1
      ] in
      H.inv.is u b ∙ ap (λ X. build z r G u X) (settles u b k)

pub progress : Progress
progress z r ω F es Q u b e = ended z F.lawful r F.calm.gone (after r ω es) (held z r ω F es) Q u b e

pub calm_again : CalmAgain
calm_again z r ω F es Q joined = (
  lawful_without r z F.lawful,
  record {
    gone = λ u. r ∷ F.calm.gone u;
    nothing = λ u b. progress z r ω F es Q u b (joined u b);
    others = H.inv.others;
    old = λ k m e. (H.inv.inside k m e, stale m.from m.to m.message (H.inv.sound k m e));
    came = H.inv.came_said;
  },
)
  where
    H : Held z r F.calm.gone (after r ω es)
    H = held z r ω F es

    stale : (v w : ℕ) (m : Message) → Honest z r H.inv.shape v w m ⊎ Stale z m → Stale (without r z) m
    stale v w (LinkDown l) (inl h) = ap (λ x. has_link (without r z) x) h ∙ link_gone z r
    stale v w (LinkDown l) (inr h) = still_gone z r l h
    stale v w (message.Switched m) (inl h) = ap (λ x. has_link (without r z) x) h.0 ∙ link_gone z r
    stale v w (message.Switched m) (inr h) = still_gone z r m.link h

pub calm_first : CalmFirst
calm_first z = record { gone = λ u. []; nothing = λ u b. refl; others = λ u b. refl; old = λ k m e. absurd (no_message k m e); came = λ k h. absurd (both_ways false refl h) }
