-- What the entry of s for its link to f does for packets to d, when the link fails.
use Rattle.std.specs.Prelude.{◌≡◌, ℕ, ◌∷◌, ◌++◌, Some, None}
use Rattle.theory.specs.Network.{Network, LinkId, without}
use Rattle.theory.specs.Distance.{distance}
use Rattle.theory.specs.NextHop.{next_hop, path}
use Rattle.theory.specs.Repair.{Repair, path_without}
use Rattle.theory.specs.RepairLaws.{Serves}
use Rattle.repairs.specs.declared.repair.Entry.{Entry}
use Rattle.repairs.specs.declared.repair.Entry.TheVariants.{Unused, Apart, Via}

-- the repair costs exactly the post-convergence distance, and it is the post-convergence path, node by node
pub record Mends (z : Network) (r : LinkId) (s d : ℕ) (x : Repair) : Type 0 where
  pub cost : ℕ
  pub left : distance (without r z) d s ≡ Some cost
  pub serves : Serves z r s d cost x
  pub same_path : (path z x.p s ++ (x.q ∷ path z d x.q)) ≡ path_without z r d s

-- no repair is missing: there is none only where s doesn't send over the link to d, or where there is no
-- post-convergence path
abbrev pub Right : Network → ℕ → ℕ → ℕ → Entry → Type 0
Right z s f d Unused = next_hop z d s ≡ Some f → ⊥
Right z s f d Apart =
    (next_hop z d s ≡ Some f) × (distance (without (record { a = s; b = f }) z) d s ≡ None)
Right z s f d (Via x) = (next_hop z d s ≡ Some f) × Mends z (record { a = s; b = f }) s d x
