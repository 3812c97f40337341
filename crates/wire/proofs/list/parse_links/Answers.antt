use Rattle.std.proofs.Common.{◌≡◌, ℕ, ◌+◌, ◌*◌, ◌≤◌, List, length, get_or, drop, None, Ok, ap, ap₂, ◌∙◌}
use Rattle.std.proofs.lemmas.List.{take_rest}
use Rattle.theory.specs.Network.{Network}
use Rattle.types.specs.declared.link.Link.{Link}
use Rattle.wire.specs.Cursor.{placed, unless}
use Rattle.wire.specs.Lists.{Listing, list_bytes, links_in, header_fault}
use Rattle.wire.proofs.Bytes.{Bytes}
use Rattle.wire.proofs.Pieces.{no_fault}
use Rattle.wire.proofs.ListBytes.{list_is, list_read, IsRead}
use Rattle.wire.proofs.list.parse_links.Goals as goal

is_read : (bs rest : List ℕ) (count size i : ℕ) (ls : List Link) → Bytes bs → 4 ≤ length bs →
    Ok tt ≡ placed i (unless (header_fault (get_or bs 0 0) (get_or bs 1 0)) (tt {0})) →
    count ≡ get_or bs 2 0 * 256 + get_or bs 3 0 → size ≡ length bs → rest ≡ drop 4 bs →
    links_in (get_or bs 1 0) count None size rest ≡ Ok ls → IsRead bs (record { nodes = get_or bs 1 0; links = ls })
is_read bs rest count size i ls b l f k m q e =
    let x : Listing = record { nodes = get_or bs 1 0; links = ls } in
    let h = no_fault (header_fault (get_or bs 0 0) (get_or bs 1 0)) i f in
    list_read bs x b (list_is bs rest count size ls l h k m q e)

pub new-requires-clause-ordered : goal.new-requires-clause-ordered
new-requires-clause-ordered c =
    let bs = c.args.bytes.now in
    let f = c.in_ok-piece.ensures ∙ ap (placed _) c.check_header.ensures in
    let m = c.after.ensures.size ∙ c.new-cursor.ensures.size in
    let q = c.after.ensures.rest ∙ take_rest bs 4 in
    let bytes = λ (j : ℕ). (c.type_inv.bytes j).fits in
    let l = c.in-len4-up.len_at_least in
    (is_read bs _ _ _ _ _ bytes l f c.from_be_bytes-count.ensures m q c.in_ok-links.ensures).ordered

pub returns-clause-spelled : goal.returns-clause-spelled
returns-clause-spelled c =
    let bs = c.args.bytes.now in
    let f = c.in_ok-piece.ensures ∙ ap (placed _) c.check_header.ensures in
    let m = c.after.ensures.size ∙ c.new-cursor.ensures.size in
    let q = c.after.ensures.rest ∙ take_rest bs 4 in
    let bytes = λ (j : ℕ). (c.type_inv.bytes j).fits in
    let l = c.in-len4-up.len_at_least in
    let r = is_read bs _ _ _ _ _ bytes l f c.from_be_bytes-count.ensures m q c.in_ok-links.ensures in
    let n = ap (λ (z : Network). z.n) c.new.ensures.network in
    ap₂ (λ k ls. list_bytes (record { nodes = k; links = ls })) n c.new.ensures.links ∙ r.spelled
