-- The laws of networks without a link, and of repairs, for every lawful network and every link of it. Assumes nothing.
use Rattle.std.specs.Prelude.{◌≡◌, ℕ, ◌+◌, ◌<◌, ◌≤◌, true, false, ◌⊎◌, ◌↔◌, ◌∷◌, ◌++◌, Some, None, ◌≢◌}
use Rattle.theory.specs.Network.{Network, Lawful, LinkId, joins, without}
use Rattle.theory.specs.Distance.{distance}
use Rattle.theory.specs.NextHop.{next_hop, path, uses}
use Rattle.theory.specs.Repair.{Repair, via, IsRepair, repair, path_without, last_reached}

-- a failure brings nothing nearer
abbrev pub NotNearer : Type 0
NotNearer =
    (z : Network) → Lawful z → (r : LinkId) (d a c : ℕ) → distance (without r z) d a ≡ Some c →
    (b : ℕ) × (distance z d a ≡ Some b) × (b ≤ c)

pub record Kept (z : Network) (r : LinkId) (d a : ℕ) : Type 0 where
  pub same_distance : distance (without r z) d a ≡ distance z d a
  pub same_hop : next_hop (without r z) d a ≡ next_hop z d a
  pub same_path : path (without r z) d a ≡ path z d a

-- who doesn't use the failed link keeps distance, next hop and path
abbrev pub Untouched : Type 0
Untouched = (z : Network) → Lawful z → (r : LinkId) (d a : ℕ) → uses z r d a ≡ false → Kept z r d a

-- where s sends over the link to d, every node is one that s reaches without the link, or one that reaches d without it
abbrev pub Either : Type 0
Either =
    (z : Network) → Lawful z → (r : LinkId) (s f d : ℕ) → joins r s f ≡ true → next_hop z d s ≡ Some f →
    (x : ℕ) → (uses z r x s ≡ false) ⊎ (uses z r d x ≡ false)

-- at most one end sends over the link to d
abbrev pub OneEnd : Type 0
OneEnd = (z : Network) → Lawful z → (s f d : ℕ) → next_hop z d s ≡ Some f → next_hop z d f ≢ Some s

-- the function in the words of the relation
abbrev pub LastClear : Type 0
LastClear =
    (z : Network) (r : LinkId) (s d p q : ℕ) → Lawful z → (repair z r s d ≡ via p q) ↔ IsRepair z r s d p q

-- a good repair at s for d: both distances exist, the link p-q is left, the cost is c in all, and no part uses r
pub record Serves (z : Network) (r : LinkId) (s d c : ℕ) (x : Repair) : Type 0 where
  pub first : ℕ
  pub rest : ℕ
  pub to_p : distance z x.p s ≡ Some first
  pub from_q : distance z d x.q ≡ Some rest
  pub link_left : 0 < (without r z).cost x.p x.q
  pub cost : first + z.cost x.p x.q + rest ≡ c
  pub clear_to : uses z r x.p s ≡ false
  pub clear_over : joins r x.p x.q ≡ false
  pub clear_from : uses z r d x.q ≡ false

-- wherever a path is left there is a repair, and it costs what the post-convergence path costs
abbrev pub Repaired : Type 0
Repaired =
    (z : Network) → Lawful z → (r : LinkId) (s f d c : ℕ) → joins r s f ≡ true → next_hop z d s ≡ Some f → distance (without r z) d s ≡ Some c →
    (x : Repair) × (repair z r s d ≡ Some x) × Serves z r s d c x

-- there is none exactly where no path is left
abbrev pub NoRepair : Type 0
NoRepair =
    (z : Network) → Lawful z → (r : LinkId) (s f d : ℕ) → joins r s f ≡ true → next_hop z d s ≡ Some f →
    (repair z r s d ≡ None) ↔ (distance (without r z) d s ≡ None)

-- the repair, followed by the present next hops, is the post-convergence path, node by node
abbrev pub SamePath : Type 0
SamePath =
    (z : Network) → Lawful z → (r : LinkId) (s d : ℕ) (x : Repair) → repair z r s d ≡ Some x →
    (path z x.p s ++ (x.q ∷ path z d x.q)) ≡ path_without z r d s

-- where s sends over the link to d, it is enough to look which nodes s reaches by another neighbour
abbrev pub Reached : Type 0
Reached =
    (z : Network) → Lawful z → (r : LinkId) (s f d : ℕ) → joins r s f ≡ true → next_hop z d s ≡ Some f →
    last_reached z s f s (path_without z r d s) ≡ repair z r s d
