-- The nodes that a change of the network z to y touches on their way to a destination.
use Rattle.std.specs.Prelude.{◌≡◌, ℕ, ◌<◌, Bool, true, false, not, ◌&&◌, ◌==◌, length, nat_lt}
use Rattle.theory.specs.Network.{Network}
use Rattle.theory.specs.Distance.{distance}
use Rattle.theory.specs.NextHop.{at_hop, next_hop}
use Rattle.types.specs.NodeSets.{has}
use Rattle.types.specs.declared.node_set.NodeSet.{NodeSet}
use Rattle.routes.specs.Neighbours.{set_at}
use Rattle.routes.specs.declared.routes.Senders.{Senders}

-- d itself is none of s, and who is none of s keeps its distance from d and its next hop for d
pub record Touched (z y : Network) (d : ℕ) (s : NodeSet) : Type 0 where
  pub within : (a : ℕ) → has s a ≡ true → a < z.n
  pub aim : has s d ≡ false
  pub same_distance : (a : ℕ) → a < z.n → has s a ≡ false → distance y d a ≡ distance z d a
  pub same_hop : (a : ℕ) → a < z.n → has s a ≡ false → next_hop y d a ≡ next_hop z d a

-- has a a next hop for d to which its link is gone?
abbrev pub cut_off : Network → Network → ℕ → ℕ → Bool
cut_off z y d a = at_hop (λ e. not (nat_lt 0 (y.cost a e))) (next_hop z d a)

-- does it send to e, and the link is there?
abbrev pub sends_to : Network → Network → ℕ → ℕ → ℕ → Bool
sends_to z y d a e = at_hop (λ x. nat_lt 0 (y.cost a x) && (x == e)) (next_hop z d a)

-- the first k nodes by how they send
pub record Sorted (z y : Network) (d k : ℕ) (s : Senders) : Type 0 where
  pub size : length s.to ≡ 64
  pub cut : (a : ℕ) → has s.cut a ≡ (nat_lt a k && cut_off z y d a)
  pub to : (e a : ℕ) → e < z.n → has (set_at s.to e) a ≡ (nat_lt a k && sends_to z y d a e)
