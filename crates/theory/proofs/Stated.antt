-- The laws as they are stated, from the lemmas. Assumes nothing.
use Rattle.std.proofs.Common.{◌≡◌, ℕ, ◌⊎◌, Some, None, Option, refl, ap, ◌∙◌, inl, inr}
use Rattle.theory.specs.NextHop.{next_hop}
use Rattle.theory.specs.Distance.{IsDistance, distance}
use Rattle.theory.specs.Network.{Network, Lawful}
use Rattle.theory.specs.Laws.{Least, ZeroAtSelf, Falls, Lowest, NoHop, PathSteps, UsesSteps}
use Rattle.theory.proofs.DistanceLaws.{distance_none, none_distance, distance_self, distance_zero}
use Rattle.theory.proofs.NextHops.{next_hop_is, is_next_hop, next_hop_here, next_hop_none}
use Rattle.theory.proofs.Distances.{distance_dist, dist_distance}
use Rattle.theory.proofs.HopPaths.{path_stop, path_to, uses_stop, uses_to, stop_end}

is_distance : (z : Network) → Lawful z → (d a : ℕ) (r : Option ℕ) → distance z d a ≡ r → IsDistance z d a r
is_distance z g d a None p = none_distance z g d a p
is_distance z g d a (Some c) p = let h = dist_distance z g d a c p in (h.found, h.least)

distance_is : (z : Network) → Lawful z → (d a : ℕ) (r : Option ℕ) → IsDistance z d a r → distance z d a ≡ r
distance_is z g d a None h = distance_none z g d a h
distance_is z g d a (Some c) h = distance_dist z g d a c (record { found = h.0; least = h.1 })

pub least : Least
least z g d a r = (is_distance z g d a r, distance_is z g d a r)

pub zero_at_self : ZeroAtSelf
zero_at_self z g d a = (distance_zero z g d a, λ e. ap (λ x. distance z d x) e ∙ distance_self z g d)

pub falls : Falls
falls z g d a e p = (next_hop_is z d a e p).near

pub lowest : Lowest
lowest z g d a e = (next_hop_is z d a e, is_next_hop z g d a e)

no_hop_where : (z : Network) → Lawful z → (d a : ℕ) → next_hop z d a ≡ None → (a ≡ d) ⊎ (distance z d a ≡ None)
no_hop_where z g d a p = go (distance z d a) refl
  where
    go : (f : Option ℕ) → distance z d a ≡ f → (a ≡ d) ⊎ (distance z d a ≡ None)
    go None q = inr q
    go (Some c) q = inl (stop_end z g d a c p q).0

where_no_hop : (z : Network) (d a : ℕ) → (a ≡ d) ⊎ (distance z d a ≡ None) → next_hop z d a ≡ None
where_no_hop z d a (inl e) = ap (λ x. next_hop z d x) e ∙ next_hop_here z d
where_no_hop z d a (inr p) = next_hop_none z d a p

pub no_hop : NoHop
no_hop z g d a = (no_hop_where z g d a, where_no_hop z d a)

pub path_steps : PathSteps
path_steps z g d a = (path_stop z d a, path_to z g d a)

pub uses_steps : UsesSteps
uses_steps z g r d a = (uses_stop z r d a, uses_to z g r d a)
