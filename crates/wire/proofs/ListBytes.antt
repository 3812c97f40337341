-- What is written of a list of links reads back as what it was, and what is read was written so.
use Rattle.std.proofs.Common.{◌≡◌, ℕ, ◌+◌, ◌*◌, ◌/◌, ◌%◌, ◌-◌, ◌<◌, ◌≤◌, true, List, [], ◌∷◌, ◌++◌, length, get_or, slice_get, drop, None, Some, Ok, Err, Option, Result, sym, refl, ap, ◌∙◌, subst, arith, rules}
use native.Mathlib.Numerals.{unary_clauses}
use Rattle.std.specs.List.{flat_map}
use Rattle.std.proofs.lemmas.Bool.{and_from}
use Rattle.std.proofs.lemmas.Nat.{div-mul-add, mod-mul-add}
use Rattle.types.specs.declared.fault.ReadFault.{ReadFault}
use Rattle.types.specs.declared.link.Link.{Link}
use Rattle.links.specs.Links.{follows, rising_from, rising, IsNodeCount}
use Rattle.links.proofs.Lawful.{follows_parts, rising_split}
use Rattle.wire.specs.declared.error.ReadError.{ReadError}
use Rattle.wire.specs.Cursor.{read_as}
use Rattle.wire.specs.Lists.{Listing, link_bytes, list_bytes, link_at, last_link, link_fault, links_in, header_of, header_fault, with_header, list_in, Header}
use Rattle.wire.proofs.Bytes.{Bytes, two_bytes, behind, bytes_from}
use Rattle.wire.proofs.Pieces.{whole_fine, header_ok, header_read, read_as_ok, Passed, WasRead, was_read, reads_back}

-- links behind those that are read already

abbrev pub last_of : List Link → Option Link
last_of ls = slice_get ls (length ls - 1)

pub last_of-push : (ls : List Link) (l : Link) → last_of (ls ++ (l ∷ [])) ≡ Some l
last_of-push [] l = refl
last_of-push (x ∷ []) l = refl
last_of-push (x ∷ (y ∷ ls)) l = simp unary_clauses (simp unary_clauses at (last_of-push (y ∷ ls) l))

pub none_before : (r : Result (List Link) ReadError) → read_as (λ xs. [] ++ xs) r ≡ r
none_before (Ok ls) = refl
none_before (Err e) = refl

-- a link without a fault may follow, and the other way round

fault_follows : (n : ℕ) (last : Option Link) (l : Link) → l.cost ≤ 65535 → link_fault n last l ≡ None →
    follows n (last_link last) l ≡ true
fault_follows n last l h e = search rules

follows_fault : (n : ℕ) (last : Option Link) (l : Link) → follows n (last_link last) l ≡ true →
    link_fault n last l ≡ None
follows_fault n last l t = let f = follows_parts n (last_link last) l t in search rules

-- links without a fault rise, and the other way round

all_rising : (n : ℕ) (last : Option Link) (ls : List Link) → Bytes (flat_map link_bytes ls) →
    Passed link_at (link_fault n) last ls → rising_from n (last_link last) ls ≡ true
unfolding rising_from
all_rising n last [] b h = refl
all_rising n last (l ∷ ls) b h =
    let high : l.cost / 256 < 256 = b 2 in
    let f = fault_follows n last l (omega arith) h.0 in
    let i = all_rising n (Some l) ls (behind (link_bytes l) (flat_map link_bytes ls) b) h.1 in
    and_from (follows n (last_link last) l) (rising_from n l ls) f i

all_passed : (n : ℕ) (last : Option Link) (ls : List Link) → rising_from n (last_link last) ls ≡ true →
    Passed link_at (link_fault n) last ls
all_passed n last [] t = tt
all_passed n last (l ∷ ls) t =
    let h = rising_split n (last_link last) l ls t in
    (follows_fault n last l h.0, all_passed n (Some l) ls h.1)

-- a link and the bytes that spell it

link_back : (l : Link) (bs : List ℕ) → link_at (link_bytes l ++ bs) ≡ Ok (l, bs)
link_back l bs =
    let of : ℕ → Link = λ c. record { a = l.a; b = l.b; cost = c } in
    whole_fine 4 (link_bytes l ++ bs) (of (l.cost / 256 * 256 + l.cost % 256)) (omega arith) ∙
    ap (λ c. Ok (of c, bs)) (two_bytes l.cost)

four : (bs : List ℕ) → 4 ≤ length bs →
    (get_or bs 0 0 ∷ (get_or bs 1 0 ∷ (get_or bs 2 0 ∷ (get_or bs 3 0 ∷ drop 4 bs)))) ≡ bs
four bs h = search rules

link_spelled : (bs : List ℕ) (p : Link × List ℕ) → Bytes bs → link_at bs ≡ Ok p → link_bytes p.0 ++ p.1 ≡ bs
link_spelled bs p h e =
    let high = div-mul-add (get_or bs 2 0) 256 (get_or bs 3 0) (h 3) in
    let low = mod-mul-add (get_or bs 2 0) 256 (get_or bs 3 0) (h 3) in
    let all = four bs in
    search rules

-- the header

header_parts : (kind n : ℕ) → header_fault kind n ≡ None → (kind ≡ 1) × IsNodeCount n
header_parts kind n e = search rules

header_fine : (n : ℕ) → IsNodeCount n → header_fault 1 n ≡ None
header_fine n h = search rules

abbrev fault_of : Header → Option ReadFault
fault_of h = header_fault h.kind h.nodes

-- the whole list

pub list_back : (x : Listing) → IsNodeCount x.nodes → rising x.nodes x.links ≡ true → list_in (list_bytes x) ≡ Ok x
list_back x h t =
    let bs = list_bytes x in
    let m = length bs in
    let more = λ (y : Header) (rest : List ℕ). read_as (with_header y) (links_in y.nodes y.count None m rest) in
    let passed = all_passed x.nodes None x.links t in
    header_read fault_of 4 bs (header_of bs) more (omega arith) (header_fine x.nodes h) ∙
    ap (read_as (with_header (header_of bs)))
    (ap (λ k. links_in x.nodes k None m (flat_map link_bytes x.links)) (two_bytes (length x.links)) ∙
    reads_back link_at (link_fault x.nodes) link_bytes link_back None m x.links passed)

abbrev Links : ℕ → List ℕ → List Link → Type 0
Links n bs ls =
    WasRead link_at (link_fault n) link_bytes (get_or bs 2 0 * 256 + get_or bs 3 0) None (drop 4 bs) ls

list_written : (n : ℕ) (bs : List ℕ) (ls : List Link) → Bytes bs → 4 ≤ length bs → get_or bs 0 0 ≡ 1 → Links n bs ls →
    list_bytes (with_header (header_of bs) ls) ≡ bs
list_written n bs ls h l k s =
    let high = ap (λ i. i / 256) s.count ∙ div-mul-add (get_or bs 2 0) 256 (get_or bs 3 0) (h 3) in
    let low = ap (λ i. i % 256) s.count ∙ mod-mul-add (get_or bs 2 0) 256 (get_or bs 3 0) (h 3) in
    let all = four bs l in
    cc

pub record IsRead (bs : List ℕ) (x : Listing) : Type 0 where
  pub few : IsNodeCount x.nodes
  pub ordered : rising x.nodes x.links ≡ true
  pub spelled : list_bytes x ≡ bs

pub list_read : (bs : List ℕ) (x : Listing) → Bytes bs → list_in bs ≡ Ok x → IsRead bs x
list_read bs x h e =
    let n = get_or bs 1 0 in
    let k = get_or bs 2 0 * 256 + get_or bs 3 0 in
    let m = length bs in
    let more = λ (y : Header) (rest : List ℕ). read_as (with_header y) (links_in y.nodes y.count None m rest) in
    let w = header_ok fault_of 4 bs (header_of bs) more x e in
    let t = header_parts (get_or bs 0 0) n w.1 in
    let r = read_as_ok (with_header (header_of bs)) (links_in n k None m (drop 4 bs)) x w.2 in
    let b = bytes_from 4 bs h in
    let s = was_read link_at (link_fault n) link_bytes link_spelled k None m (drop 4 bs) r.0 b r.1 in
    subst (IsRead bs) r.2 (record {
      few = t.1;
      ordered = all_rising n None r.0 (subst Bytes (sym s.spelled) b) s.passed;
      spelled = list_written n bs r.0 h w.0 t.0 s;
    })

-- what is read behind a header that has no fault
pub list_is : (bs rest : List ℕ) (count size : ℕ) (ls : List Link) → 4 ≤ length bs →
    header_fault (get_or bs 0 0) (get_or bs 1 0) ≡ None →
    count ≡ get_or bs 2 0 * 256 + get_or bs 3 0 → size ≡ length bs → rest ≡ drop 4 bs →
    links_in (get_or bs 1 0) count None size rest ≡ Ok ls →
    list_in bs ≡ Ok (record { nodes = get_or bs 1 0; links = ls })
list_is bs rest count size ls l f k m q e =
    let n = get_or bs 1 0 in
    let i = get_or bs 2 0 * 256 + get_or bs 3 0 in
    let z = length bs in
    let more = λ (y : Header) (left : List ℕ). read_as (with_header y) (links_in y.nodes y.count None z left) in
    let u = ap (λ x. links_in n x None size rest) k in
    let v = ap (λ x. links_in n i None x rest) m in
    let w = ap (λ x. links_in n i None z x) q in
    header_read fault_of 4 bs (header_of bs) more l f ∙ ap (read_as (with_header (header_of bs))) (sym (u ∙ v ∙ w) ∙ e)
