-- The plan of a network, as bytes.
use Rattle.std.specs.Prelude.{ℕ, zero, suc, List, [], ◌∷◌, ◌++◌, Some, None, codes, decimal, Option}
use Rattle.std.specs.List.{flat_map}
use Rattle.theory.specs.Network.{LinkId, Network}
use Rattle.theory.specs.Distance.{distance}
use Rattle.theory.specs.NextHop.{next_hop}
use Rattle.theory.specs.Repair.{Laid, Unused, Apart, Via}
use Rattle.types.specs.declared.link.Link.{Link}
use Rattle.types.specs.Link.{ends_of, link_name}
use Rattle.render.specs.LinkRepair.{LinkRepair, link_repair}

-- a number, or '-' for none
abbrev pub cell : Option ℕ → List ℕ
cell None = codes "-"
cell (Some c) = decimal c

-- the first k cells of a row, a space before each
unfoldable pub cells : (ℕ → List ℕ) → ℕ → List ℕ
cells f zero = []
cells f (suc k) = cells f k ++ (32 ∷ f k)

-- a row: its name, a colon, n cells, and a line's end
abbrev pub row : List ℕ → (ℕ → List ℕ) → ℕ → List ℕ
row name f n = name ++ (58 ∷ (cells f n ++ (10 ∷ [])))

-- the rows of the first k nodes
unfoldable pub rows : ℕ → (ℕ → ℕ → List ℕ) → ℕ → List ℕ
rows n f zero = []
rows n f (suc k) = rows n f k ++ row (decimal k) (f k) n

-- the rows of all n nodes, with a cell for each destination
abbrev pub table : ℕ → (ℕ → ℕ → Option ℕ) → List ℕ
table n value = rows n (λ a d. cell (value a d)) n

-- the number of nodes, the distances and the next hops
abbrev pub header : ℕ → List ℕ
header n = codes "places " ++ (decimal n ++ codes "\ndistances\n")

abbrev pub tables : Network → List ℕ
tables z =
    header z.n ++
    (table z.n (λ a d. distance z d a) ++ (codes "tables\n" ++ table z.n (λ a d. next_hop z d a)))

-- unused where no end sends over the link, apart where there is no post-convergence path; else the end and its repair
abbrev pub laid_text : ℕ → Laid → List ℕ
laid_text end Unused = codes "unused"
laid_text end Apart = codes "apart"
laid_text end (Via p q) = decimal end ++ (58 ∷ link_name (record { a = p; b = q }))

abbrev pub link_repair_text : LinkRepair → List ℕ
link_repair_text r = laid_text r.end r.laid

-- the row of a link, with a cell for each destination
abbrev pub link_row : Network → LinkId → List ℕ
link_row z l = row (link_name l) (λ d. link_repair_text (link_repair z l d)) z.n

-- the whole plan of a network with these links
abbrev pub plan : Network → List Link → List ℕ
plan z ls = tables z ++ (codes "detours\n" ++ flat_map (λ l. link_row z (ends_of l)) ls)
