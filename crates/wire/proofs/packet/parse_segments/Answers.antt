use Rattle.std.proofs.Common.{◌≡◌, ◌<◌, ◌+◌, ◌-◌, length, None, Some, Ok, sym, ap, ap₂, ◌∙◌, length-append, append-nil, arith}
use Rattle.std.proofs.lemmas.Result.{err_from_is_err_and}
use Rattle.types.specs.Packet.{packet_of, with_segments}
use Rattle.wire.specs.Cursor.{placed, read_as}
use Rattle.wire.specs.Packets.{segment_at, segments_in}
use Rattle.wire.proofs.Pieces.{all_read, left_over, nothing_there, refused_here, read_one}
use Rattle.wire.proofs.PacketBytes.{faults, with_more, longer_fits, more_behind}
use Rattle.wire.proofs.packet.parse_segments.Goals as goal

pub loop-init : goal.loop-init
loop-init c = let z : c.args.count - 0 ≡ c.args.count = omega arith in (None, rw z, omega (arith, c.requires))

pub returns-in_default : goal.returns-in_default
returns-in_default c =
    let n = c.args.nodes in
    let f = c.no_segment.ensures c.in_default.ensures in
    nothing_there segment_at (faults n) _ _ _ _ _ _ c.loop.invariant.1 _ _ (omega arith) f c.refuse.ensures

pub returns-in_err-piece : goal.returns-in_err-piece
returns-in_err-piece c =
    let n = c.args.nodes in
    let p = err_from_is_err_and c.from_residual.result c.from_residual.ensures.1 in
    let f = c.in_err-piece.ensures ∙ ap (placed _) c.check_segment.ensures in
    rw (p.1, p.2)
    (refused_here segment_at (faults n) _ _ _ _ _ _ c.loop.invariant.1 _ _ (omega arith) c.in-Some.ensures f)

pub loop-preserved : goal.loop-preserved
loop-preserved c =
    let n = c.args.nodes in
    let s = c.in-Some.segment in
    let left = c.args.count - (c.loop.counter + 1) in
    let p = packet_of c.loop.longer in
    let q = packet_of c.in-Some-with_last.next in
    let room : length p.segments < 5 = omega (arith, c.loop.invariant.2) in
    let e = longer_fits p q s room c.in-Some-with_last.ensures in
    let few = ap (λ v. length v.segments) e ∙ length-append p.segments _ in
    let f = c.in_ok-piece.ensures ∙ ap (placed _) c.check_segment.ensures in
    let a = c.after-rest.ensures in
    let rest = ap₂ (λ m bs. read_as (with_more q) (segments_in n left (Some s) m bs)) a.size a.rest in
    let more = more_behind p q s e in
    let i = c.loop.invariant.1 in
    let r = read_one segment_at (faults n) _ _ _ _ _ _ i (with_more q) left _ (omega arith) c.in-Some.ensures f more in
    (Some s, rest ∙ r, omega (arith, c.loop.invariant.2, few))

pub returns-in_err-end : goal.returns-in_err-end
returns-in_err-end c =
    let n = c.args.nodes in
    let p = err_from_is_err_and c.from_residual-in_err-end.result c.from_residual-in_err-end.ensures.1 in
    rw (p.1, p.2)
    (left_over segment_at (faults n) _ _ _ _ _ _ c.loop.invariant.1 _ (omega arith) c.in_err-end.ensures)

pub returns : goal.returns
returns c =
    let n = c.args.nodes in
    let p = packet_of c.loop.longer in
    ap (λ ss. Ok (with_segments p ss)) (sym (append-nil p.segments)) ∙
    all_read segment_at (faults n) _ _ _ _ _ _ c.loop.invariant.1 (omega arith) c.in_ok-end.ensures
