use Rattle.std.proofs.Common.{◌<◌, length, drop, ap, ◌∙◌, arith, rules, length-drop}
use Rattle.wire.specs.Frames.{size_in}
use Rattle.wire.proofs.frame.FramesIterator.next.Goals as goal

pub returns-clause-goes : goal.returns-clause-goes
returns-clause-goes c =
    let bs = c.args.self.now.rest.now in
    let e = c.in-Some.ensures.some in
    let rest = ap length e.rest ∙ length-drop (size_in bs) (drop 3 bs) in
    let less : length c.in-Some.rest.now < length bs = omega (arith, e.whole, rest, length-drop 3 bs) in
    record { on = λ h. search rules; keeps = search rules; rests = λ h. search rules }
