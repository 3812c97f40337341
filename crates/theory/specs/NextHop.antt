-- Next hops, the path that they make, and whether it uses a link. Assumes nothing.
use Rattle.std.specs.Prelude.{◌≡◌, ℕ, zero, suc, ◌+◌, ◌<◌, ◌≤◌, Bool, false, cond, ◌&&◌, ◌||◌, List, [], ◌∷◌, is_some, Some, None, Option, ◌==◌}
use Rattle.theory.specs.Network.{Network, LinkId, joins}
use Rattle.theory.specs.Distance.{distance, over}

-- by its neighbour e, a is as near to d as it can be
pub record AsNear (z : Network) (d a e : ℕ) : Type 0 where
  pub rest : ℕ
  pub link : 0 < z.cost a e
  pub there : distance z d e ≡ Some rest
  pub here : distance z d a ≡ Some (z.cost a e + rest)

-- what the next hop of a for d is: the lowest-numbered such neighbour; d itself has none
pub record IsNextHop (z : Network) (d a e : ℕ) : Type 0 where
  pub elsewhere : a ≡ d → ⊥
  pub near : AsNear z d a e
  pub lowest : (y : ℕ) → AsNear z d a y → e ≤ y

abbrev pub same : Option ℕ → Option ℕ → Bool
same None None = Bool.true
same None (Some b) = false
same (Some a) None = false
same (Some a) (Some b) = a == b

-- the first of the k neighbours from e on by which a is as near to d as it can be
unfoldable pub first_from : Network → ℕ → ℕ → ℕ → ℕ → Option ℕ
first_from z d a e zero = None
first_from z d a e (suc k) =
    cond (is_some (distance z d a) && same (over (z.cost a e) (distance z d e)) (distance z d a)) (Some e) (first_from z d a (e + 1) k)

-- the next hop for d at a
abbrev pub next_hop : Network → ℕ → ℕ → Option ℕ
next_hop z d a = cond (a == d) None (first_from z d a 0 z.n)

abbrev pub followed : Option ℕ → List ℕ → List ℕ
followed None more = []
followed (Some e) more = e ∷ more

abbrev pub hop_or : ℕ → Option ℕ → ℕ
hop_or a None = a
hop_or a (Some e) = e

-- the first k nodes after a on the path by next hops to d
unfoldable pub path_by : ℕ → Network → ℕ → ℕ → List ℕ
path_by zero z d a = []
path_by (suc k) z d a = followed (next_hop z d a) (path_by k z d (hop_or a (next_hop z d a)))

-- the path by next hops from a to d: the nodes after a
abbrev pub path : Network → ℕ → ℕ → List ℕ
path z d a = path_by z.n z d a

abbrev pub at_hop : (ℕ → Bool) → Option ℕ → Bool
at_hop f None = false
at_hop f (Some e) = f e

-- do the first k links of the path by next hops from a to d include the link r?
unfoldable pub uses_by : ℕ → Network → LinkId → ℕ → ℕ → Bool
uses_by zero z r d a = false
uses_by (suc k) z r d a = at_hop (λ e. joins r a e || uses_by k z r d e) (next_hop z d a)

-- does the path by next hops from a to d use the link r?
abbrev pub uses : Network → LinkId → ℕ → ℕ → Bool
uses z r d a = uses_by z.n z r d a
