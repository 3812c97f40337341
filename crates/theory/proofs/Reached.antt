-- Which nodes the end of a link reaches without it is seen from its next hops alone. Assumes nothing.
use Rattle.std.proofs.Common.{◌≡◌, ℕ, Bool, true, false, cond, not, List, [], ◌∷◌, Some, None, Option, sym, refl, ap, ◌∙◌, subst, inl, inr}
use Rattle.std.proofs.lemmas.Bool.{both_ways, eq-eqb, cases_Bool, and_left, not_from_true, cond-true, cond-false}
use Rattle.theory.specs.Repair.{via, path_without, clear, later, last_clear, repair, sends, last_reached, Repair}
use Rattle.theory.specs.NextHop.{same, next_hop, uses}
use Rattle.theory.specs.Distance.{IsPath, distance}
use Rattle.theory.specs.Network.{joins, without, Network, Lawful, LinkId}
use Rattle.theory.specs.RepairLaws.{Reached}
use Rattle.theory.proofs.Repairs.{some_none, clear_from_lem, uses_self, uses_over}
use Rattle.theory.proofs.NextHops.{same_eq, next_hop_none}
use Rattle.theory.proofs.Without.{lawful_without}
use Rattle.theory.proofs.Using.{first_link, either}
use Rattle.theory.proofs.HopPaths.{path_stop, leads}
use Rattle.theory.proofs.Paths.{nil_cons}

pub sends_uses : (z : Network) → Lawful z → (r : LinkId) (s f x : ℕ) → joins r s f ≡ true → sends z s f x ≡ uses z r x s
sends_uses z g r s f x e = elim (cases_Bool (uses z r x s)) [
  | inl t ↦ ap (λ o. same o (Some f)) (first_link z g r s f x e t) ∙ (eq-eqb f f refl ∙ sym t)
  | inr t ↦ elim (cases_Bool (sends z s f x)) [
    | inr u ↦ u ∙ sym t
    | inl u ↦ absurd (both_ways (uses z r x s) t (uses_over z g r s f x e (same_eq (next_hop z x s) (Some f) u)))
  ]
]

reached_along : (z : Network) → Lawful z → (r : LinkId) (s f d : ℕ) → joins r s f ≡ true → next_hop z d s ≡ Some f → (w : ℕ) (ws : List ℕ) → IsPath (without r z) d w ws → last_reached z s f w ws ≡ last_clear z r s d w ws
unfolding last_reached last_clear
reached_along z g r s f d e h w [] i = refl
reached_along z g r s f d e h w (q ∷ qs) i =
    let t = reached_along z g r s f d e h q qs i.1 in
    ap (λ o. later o (cond (sends z s f w) None (via w q))) t ∙ go (last_clear z r s d q qs) refl (λ k. rest qs i.1 (t ∙ k))
  where
    rest : (qs : List ℕ) → IsPath (without r z) d q qs → last_reached z s f q qs ≡ None → uses z r d q ≡ false
    rest [] j k = subst (λ x. uses z r d x ≡ false) (sym j) (uses_self z r d)
    rest (x ∷ xs) j k = elim (either z g r s f d e h q) [
      | inr m ↦ m
      | inl m ↦ absurd (found (last_reached z s f x xs) k (sends_uses z g r s f q e ∙ m))
    ]
      where
        found : (o : Option Repair) → later o (cond (sends z s f q) None (via q x)) ≡ None → sends z s f q ≡ false → ⊥
        found (Some y) v u = some_none y v
        found None v u = some_none (record { p = q; q = x }) (sym (cond-false (sends z s f q) None (via q x) u) ∙ v)

    here : uses z r d q ≡ false → (b : Bool) → sends z s f w ≡ b → cond (sends z s f w) None (via w q) ≡ cond (clear z r s d w q) (via w q) None
    here c true k =
        cond-true (sends z s f w) None (via w q) k ∙
        sym (cond-false (clear z r s d w q) (via w q) None (and_left (not (uses z r w s)) (not (uses z r d q)) (not_from_true (uses z r w s) (sym (sends_uses z g r s f w e) ∙ k))))
    here c false k =
        cond-false (sends z s f w) None (via w q) k ∙
        sym (cond-true (clear z r s d w q) (via w q) None (clear_from_lem z r s d w q (sym (sends_uses z g r s f w e) ∙ k) c))

    go : (o : Option Repair) → last_clear z r s d q qs ≡ o → (last_clear z r s d q qs ≡ None → uses z r d q ≡ false) → later (last_clear z r s d q qs) (cond (sends z s f w) None (via w q)) ≡ later (last_clear z r s d q qs) (cond (clear z r s d w q) (via w q) None)
    go (Some y) k m =
        ap (λ o. later o (cond (sends z s f w) None (via w q))) k ∙ sym (ap (λ o. later o (cond (clear z r s d w q) (via w q) None)) k)
    go None k m =
        ap (λ o. later o (cond (sends z s f w) None (via w q))) k ∙
        (here (m k) (sends z s f w) refl ∙ sym (ap (λ o. later o (cond (clear z r s d w q) (via w q) None)) k))

no_nodes : (z : Network) (r : LinkId) (s f d : ℕ) (ws : List ℕ) → ws ≡ [] → last_reached z s f s ws ≡ last_clear z r s d s ws
unfolding last_reached last_clear
no_nodes z r s f d [] k = refl
no_nodes z r s f d (x ∷ xs) k = absurd (nil_cons x xs (sym k))

pub reached : Reached
reached z g r s f d e h = go (distance (without r z) d s) refl
  where
    go : (o : Option ℕ) → distance (without r z) d s ≡ o → last_reached z s f s (path_without z r d s) ≡ repair z r s d
    go (Some c) q = reached_along z g r s f d e h s (path_without z r d s) (leads (without r z) (lawful_without r z g) d s c q).0
    go None q = no_nodes z r s f d (path_without z r d s) (path_stop (without r z) d s (next_hop_none (without r z) d s q))
