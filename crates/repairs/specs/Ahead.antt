-- Nodes along the post-convergence path from s to d, which is the path in y.
use Rattle.std.specs.Prelude.{◌≡◌, ℕ, ◌+◌, Some}
use Rattle.theory.specs.Network.{Network}
use Rattle.theory.specs.Distance.{distance}
use Rattle.theory.specs.NextHop.{next_hop}

-- q stands on it after s, and w is its first node after s
pub record On (y : Network) (s d q : ℕ) : Type 0 where
  pub w : ℕ
  pub a : ℕ
  pub on : ℕ
  pub b : ℕ
  pub first : next_hop y d s ≡ Some w
  pub to_q : distance y q s ≡ Some a
  pub from_w : distance y q w ≡ Some on
  pub sum : a ≡ y.cost s w + on
  pub left : distance y d q ≡ Some b
  pub whole : distance y d s ≡ Some (a + b)

-- w is s or stands on it
abbrev pub Ahead : Network → ℕ → ℕ → ℕ → Type 0
Ahead y s d w = (q : ℕ) → next_hop y d w ≡ Some q → On y s d q
