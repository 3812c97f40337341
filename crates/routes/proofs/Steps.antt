-- Next hops, paths and the use of a link, a step at a time.
use Rattle.std.proofs.Common.{◌≡◌, ℕ, ◌<◌, Bool, true, false, ◌||◌, List, [], ◌∷◌, ◌++◌, Some, None, Option, sym, refl, ap, ◌∙◌, subst, append_assoc, append-nil}
use Rattle.theory.specs.NextHop.{next_hop, path, uses}
use Rattle.theory.specs.Distance.{IsPath}
use Rattle.theory.specs.Network.{joins, Network, Lawful, LinkId}
use Rattle.theory.proofs.NextHops.{next_hop_is}
use Rattle.theory.proofs.HopPaths.{hops, hops_fall, path_stop, path_to, uses_stop, uses_to}
use Rattle.theory.proofs.Paths.{sound}

module _ (z : Network) (g : Lawful z) (d : ℕ) where
  path_within : (a : ℕ) (ws : List ℕ) → a < z.n → IsPath z d a ws → d < z.n
  path_within a [] l w = subst (λ x. x < z.n) w l
  path_within a (y ∷ ys) l w = path_within y ys (g.within a y w.0).1 w.1

  -- outside the network there is no next hop
  pub hop_outside : (a : ℕ) → ((d < z.n) × (a < z.n) → ⊥) → None ≡ next_hop z d a
  hop_outside a h = go (next_hop z d a) refl
    where
      go : (x : Option ℕ) → next_hop z d a ≡ x → None ≡ next_hop z d a
      go None e = sym e
      go (Some y) e =
          let n = (next_hop_is z d a y e).near in
          let w = g.within a y n.link in
          let s = sound z.n z d y n.rest n.there in
          absurd (h (path_within y s.nodes w.1 s.path, w.0))

  -- each step leads nearer
  pub hop_falls : (a e : ℕ) → Some e ≡ next_hop z d a → hops z d e < hops z d a
  hop_falls a e p = hops_fall z g d a e (sym p)

  pub uses_none : (r : LinkId) (a : ℕ) → None ≡ next_hop z d a → false ≡ uses z r d a
  uses_none r a p = sym (uses_stop z r d a (sym p))

  pub uses_here : (r : LinkId) (a e : ℕ) (x : Bool) → Some e ≡ next_hop z d a → x ≡ true → true ≡ joins r a e → x ≡ uses z r d a
  uses_here r a e x p t q = t ∙ sym (uses_to z g r d a e (sym p) ∙ ap (λ b. b || uses z r d e) (sym q))

  pub uses_on : (r : LinkId) (a e : ℕ) (x : Bool) → Some e ≡ next_hop z d a → x ≡ uses z r d e → false ≡ joins r a e → x ≡ uses z r d a
  uses_on r a e x p t q = t ∙ sym (uses_to z g r d a e (sym p) ∙ ap (λ b. b || uses z r d e) (sym q))

  pub path_none : (a : ℕ) (xs : List ℕ) → None ≡ next_hop z d a → xs ≡ xs ++ path z d a
  path_none a xs p = sym (ap (λ l. xs ++ l) (path_stop z d a (sym p)) ∙ append-nil xs)

  pub path_more : (a e : ℕ) (xs ys : List ℕ) → Some e ≡ next_hop z d a → ys ≡ xs ++ e ∷ [] → ys ++ path z d e ≡ xs ++ path z d a
  path_more a e xs ys p q =
      ap (λ l. l ++ path z d e) q ∙
      (append_assoc xs (e ∷ []) (path z d e) ∙ ap (λ l. xs ++ l) (sym (path_to z g d a e (sym p))))
