use Rattle.std.proofs.Common.{◌≡◌, ℕ, ◌+◌, ◌-◌, ◌<◌, ◌≤◌, List, length, take, drop, sym, ap, ◌∙◌, arith, length-drop}
use Rattle.std.specs.List.{copy_within}
use Rattle.std.proofs.lemmas.List.{take-append-le, drop-take}
use Rattle.std.proofs.lemmas.List.Edits.{paste_all}
use Rattle.types.specs.declared.segment.Segment.{Segment}
use Rattle.types.proofs.segments.Segments.without_first.Goals as goal

shifted : (l : List Segment) (k : ℕ) → 0 < k → k ≤ length l →
    take (k - 1) (copy_within l 1 (length l) 0) ≡ drop 1 (take k l)
shifted l k h j =
    let d = length-drop 1 l in
    let z : 1 + (k - 1) ≡ k = omega arith in
    let p =
    ap (take (k - 1)) (paste_all l 0 (drop 1 l) (length l - 1) (omega arith)) ∙
    take-append-le (k - 1) (drop 1 l) _ (omega arith) in
    p ∙ (sym (drop-take 1 (k - 1) l) ∙ ap (λ i. drop 1 (take i l)) z)

pub returns : goal.returns
returns g c =
    let s = c.args.self in
    ap (take (s.count - 1)) c.copy_within.ensures.after ∙ shifted s.all s.count (omega arith) (omega arith)
