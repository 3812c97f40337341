use Rattle.std.proofs.Common.{inl, inr, arith, rules}
use Rattle.std.proofs.lemmas.Bool.{both_ways}
use Rattle.types.specs.NodeSets.{has}
use Rattle.routes.proofs.Sets.{size_falls}
use Rattle.routes.proofs.view.nearest.Goals as goal

pub loop-u-smaller-then-there-least : goal.loop-u-smaller-then-there-least
loop-u-smaller-then-there-least c =
    let t = c.in-Some.ensures in
    size_falls c.loop-u.rest c.take_first.new.self c.in-Some.u t.1 t.0.within t.0.in_set

pub loop-u-smaller : goal.loop-u-smaller
loop-u-smaller c =
    let t = c.in-Some.ensures in
    size_falls c.loop-u.rest c.take_first.new.self c.in-Some.u t.1 t.0.within t.0.in_set

pub returns-else-least : goal.returns-else-least
returns-else-least c =
    let i = c.loop-u.invariant in
    let best = i.3 (omega (arith, i.2, c.if-least.false)) in
    record {
      in_set = best.0;
      some = omega (arith, best.1, c.if-least.false);
      least = λ v h. elim (i.1 v h) [
        | inl rest ↦ absurd (both_ways (has c.loop-u.rest v) (c.in_default.ensures.1 v) rest)
        | inr l ↦ omega (arith, best.1, l)
      ];
    }
