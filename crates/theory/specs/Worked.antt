-- Worked cases: small networks in which the link 0-1 fails. Assumes nothing.
use Rattle.std.specs.Prelude.{◌≡◌, ℕ, ◌+◌, ◌%◌, cond, ◌&&◌, ◌||◌, List, [], ◌∷◌, Some, None, Option, ◌==◌, nat_lt}
use Rattle.theory.specs.Network.{Network, LinkId, without}
use Rattle.theory.specs.Distance.{distance}
use Rattle.theory.specs.NextHop.{next_hop}
use Rattle.theory.specs.Repair.{Repair, repair}

-- n nodes in a ring, all costs 1; with two nodes, one link
abbrev pub ring : ℕ → Network
ring n = record { n = n; cost = λ a b. cond (nat_lt a n && (nat_lt b n && ((a + 1) % n == b || (b + 1) % n == a))) 1 0 }

abbrev pub failing : LinkId
failing = record { a = 0; b = 1 }

-- at the node 0 of a ring, for the destination d: the next hop, the repair, and the distance that is left
pub record Case : Type 0 where
  pub nodes : ℕ
  pub d : ℕ
  pub hop : Option ℕ
  pub answer : Option Repair
  pub left : Option ℕ

abbrev pub Holds : Case → Type 0
Holds c =
    (next_hop (ring c.nodes) c.d 0 ≡ c.hop) × (repair (ring c.nodes) failing 0 c.d ≡ c.answer) × (distance (without failing (ring c.nodes)) c.d 0 ≡ c.left)

abbrev pub AllHold : List Case → Type 0
AllHold [] = Unit {0}
AllHold (c ∷ cs) = Holds c × AllHold cs

abbrev pub cases : List Case
cases =
    -- A: in a ring of four, to 1, by 3 and the link 3-2
    record { nodes = 4; d = 1; hop = Some 1; answer = Some (record { p = 3; q = 2 }); left = Some 3 } ∷ (
    -- B: there, to 2: 1 and 3 are as near, and 1 is the lower
    record { nodes = 4; d = 2; hop = Some 1; answer = Some (record { p = 3; q = 2 }); left = Some 2 } ∷ (
    -- C: in a triangle, to 1, by 2 and the link 2-1
    record { nodes = 3; d = 1; hop = Some 1; answer = Some (record { p = 2; q = 1 }); left = Some 2 } ∷ (
    -- D: two nodes and one link: no repair, and 1 is cut off
    record { nodes = 2; d = 1; hop = Some 1; answer = None; left = None } ∷ [])))

abbrev pub Worked : Type 0
Worked = AllHold cases
