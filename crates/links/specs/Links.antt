-- Lists of links: which are lawful, and the network that they make.
use Rattle.std.specs.Prelude.{◌≡◌, ℕ, ◌<◌, Bool, true, if◌then◌else◌, ◌&&◌, ◌||◌, List, [], ◌∷◌, length, ◌==◌, nat_le, nat_lt, slice_index_or, ◌≤◌}
use Rattle.types.specs.Link.{ends_of}
use Rattle.theory.specs.Network.{joins, Network}
use Rattle.types.specs.declared.link.Link.{Link}

-- how many nodes a network has: 1 to 64
abbrev pub IsNodeCount : ℕ → Type 0
IsNodeCount n = (0 < n) × (n ≤ 64)

-- p comes before l: by the lower node, then by the higher one
abbrev pub precedes : Link → Link → Bool
precedes p l = nat_lt p.a l.a || (p.a == l.a && nat_lt p.b l.b)

-- l may follow p in a network of n nodes: its lower node comes first, both are below n, its cost is from 1 to 65,535, and p
-- comes before it
abbrev pub follows : ℕ → Link → Link → Bool
follows n p l = nat_lt l.a l.b && nat_lt l.b n && nat_lt 0 l.cost && nat_le l.cost 65535 && precedes p l

-- before the first link: no link may stand before it, and every link may follow
abbrev pub start : Link
start = record { a = 0; b = 0; cost = 0 }

-- each link may follow the one before it
unfoldable pub rising_from : ℕ → Link → List Link → Bool
rising_from n p [] = true
rising_from n p (l ∷ ls) = follows n p l && rising_from n l ls

abbrev pub rising : ℕ → List Link → Bool
rising n ls = rising_from n start ls

-- the cost of the link that joins x and y, 0 where none does
unfoldable pub cost_in : List Link → ℕ → ℕ → ℕ
cost_in [] x y = 0
cost_in (l ∷ ls) x y = if joins (ends_of l) x y then l.cost else cost_in ls x y

-- the network of n nodes and these links
abbrev pub network_of : ℕ → List Link → Network
network_of n ls = record { n = n; cost = cost_in ls }

-- each link of the list is a link of the network, at its cost: none hides another
abbrev pub Listed : List Link → Type 0
Listed ls =
    (i : ℕ) → i < length ls →
    let l = slice_index_or ls i start in
    (0 < l.cost) × (cost_in ls l.a l.b ≡ l.cost)
