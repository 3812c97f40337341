-- The repair at the end s of a failed link r, for the packets that s would send over r to d. Assumes nothing.
use Rattle.std.specs.Prelude.{◌≡◌, ℕ, Bool, true, cond, not, ◌&&◌, List, [], ◌∷◌, ◌++◌, Some, None, Option, ◌≢◌}
use Rattle.theory.specs.Network.{Network, LinkId, without}
use Rattle.theory.specs.NextHop.{same, next_hop, path, uses}

-- first to p by next hops, then over the link from p to q, then on to d by next hops
pub record Repair : Type 0 where
  pub p : ℕ
  pub q : ℕ

abbrev pub via : ℕ → ℕ → Option Repair
via p q = Some (record { p = p; q = q })

-- the post-convergence path: by the next hops of the network without the link
abbrev pub path_without : Network → LinkId → ℕ → ℕ → List ℕ
path_without z r d s = path (without r z) d s

-- neither the present path from s to p nor the one from q to d uses the link
abbrev pub clear : Network → LinkId → ℕ → ℕ → ℕ → ℕ → Bool
clear z r s d p q = not (uses z r p s) && not (uses z r d q)

-- what a repair is: the last link p-q along the post-convergence path with both parts clear of r
pub record IsRepair (z : Network) (r : LinkId) (s d p q : ℕ) : Type 0 where
  pub before : List ℕ
  pub after : List ℕ
  pub along : (s ∷ path_without z r d s) ≡ (before ++ (p ∷ (q ∷ after)))
  pub both_clear : clear z r s d p q ≡ true
  pub last : (u v : ℕ) (us vs : List ℕ) → (q ∷ after) ≡ (us ++ (u ∷ (v ∷ vs))) → clear z r s d u v ≢ true

-- the later of two that serve
abbrev pub later : Option Repair → Option Repair → Option Repair
later None x = x
later (Some y) x = Some y

-- the last link along the nodes from p on with both parts clear of r
unfoldable pub last_clear : Network → LinkId → ℕ → ℕ → ℕ → List ℕ → Option Repair
last_clear z r s d p [] = None
last_clear z r s d p (q ∷ qs) = later (last_clear z r s d q qs) (cond (clear z r s d p q) (via p q) None)

abbrev pub repair : Network → LinkId → ℕ → ℕ → Option Repair
repair z r s d = last_clear z r s d s (path_without z r d s)

-- does s send packets for x to f?
abbrev pub sends : Network → ℕ → ℕ → ℕ → Bool
sends z s f x = same (next_hop z x s) (Some f)

-- the last link along the nodes from p on whose first node s reaches by another neighbour than f
unfoldable pub last_reached : Network → ℕ → ℕ → ℕ → List ℕ → Option Repair
last_reached z s f p [] = None
last_reached z s f p (q ∷ qs) = later (last_reached z s f q qs) (cond (sends z s f p) None (via p q))

-- what s has laid up for its link to f and the destination d: nothing where it doesn't send over the link to d; that no
-- path is left; or the repair
pub data Laid : Type 0 where
  Unused : Laid
  Apart : Laid
  Via : (p q : ℕ) → Laid

abbrev pub laid_by : Option Repair → Laid
laid_by None = Apart
laid_by (Some x) = Via x.p x.q

abbrev pub laid : Network → ℕ → ℕ → ℕ → Laid
laid z s f d = cond (sends z s f d) (laid_by (repair z (record { a = s; b = f }) s d)) Unused
