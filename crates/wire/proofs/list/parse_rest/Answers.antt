use Rattle.std.proofs.Common.{◌+◌, ◌-◌, List, ◌++◌, ◌∷◌, [], vec_items, Ok, sym, ap, ◌∙◌, append_assoc, append-nil, arith}
use Rattle.std.proofs.lemmas.Result.{err_from_is_err_and}
use Rattle.types.specs.declared.fault.ReadFault.TheVariants.{Truncated}
use Rattle.types.specs.declared.link.Link.{Link}
use Rattle.wire.specs.Cursor.{placed, unless}
use Rattle.wire.specs.Lists.{link_at, link_fault}
use Rattle.wire.proofs.Pieces.{all_read, left_over, nothing_there, refused_here, read_one}
use Rattle.wire.proofs.ListBytes.{last_of, last_of-push}
use Rattle.wire.proofs.list.parse_rest.Goals as goal

pub returns-in_default : goal.returns-in_default
returns-in_default c =
    let n = c.args.nodes in
    let f = c.in_default.ensures in
    sym (nothing_there link_at (link_fault n) _ _ _ _ _ _ c.loop.invariant Truncated _ (omega arith) f c.refuse.ensures)

pub returns-in_err-piece : goal.returns-in_err-piece
returns-in_err-piece c =
    let n = c.args.nodes in
    let p = err_from_is_err_and c.from_residual.result c.from_residual.ensures.1 in
    let last = c.last.ensures.value ∙ ap last_of c.deref.ensures.value in
    let f = c.check_link.ensures ∙ ap (λ o. unless (link_fault n o c.in-Some.link) (tt {0})) last in
    let g = c.in_err-piece.ensures ∙ ap (placed _) f in
    rw (p.1, p.2)
    (sym (refused_here link_at (link_fault n) _ _ _ _ _ _ c.loop.invariant _ _ (omega arith) c.in-Some.ensures g))

pub loop-preserved : goal.loop-preserved
loop-preserved c =
    let n = c.args.nodes in
    let ls = vec_items c.loop.links in
    let l = c.in-Some.link in
    let left = c.args.count - (c.loop.counter + 1) in
    let last = c.last.ensures.value ∙ ap last_of c.deref.ensures.value in
    let f = c.check_link.ensures ∙ ap (λ o. unless (link_fault n o l) (tt {0})) last in
    let g = c.in_ok-piece.ensures ∙ ap (placed _) f in
    let a = c.after-rest.ensures in
    let i = c.loop.invariant in
    let more = λ (xs : List Link). (ls ++ (l ∷ [])) ++ xs in
    let s = append_assoc ls (l ∷ []) in
    let r = read_one link_at (link_fault n) _ _ _ _ _ _ i more left _ (omega arith) c.in-Some.ensures g s in
    rw (c.in_ok-push.ensures.items, last_of-push ls l, a.size, a.rest) r

pub returns-in_err-end : goal.returns-in_err-end
returns-in_err-end c =
    let n = c.args.nodes in
    let p = err_from_is_err_and c.from_residual-in_err-end.result c.from_residual-in_err-end.ensures.1 in
    rw (p.1, p.2)
    (sym (left_over link_at (link_fault n) _ _ _ _ _ _ c.loop.invariant _ (omega arith) c.in_err-end.ensures))

pub returns : goal.returns
returns c =
    let n = c.args.nodes in
    sym (all_read link_at (link_fault n) _ _ _ _ _ _ c.loop.invariant (omega arith) c.in_ok-end.ensures) ∙
    ap (λ xs. Ok xs) (append-nil (vec_items c.loop.links))
