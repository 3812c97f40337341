use Rattle.std.proofs.Common.{ℕ, arith, length-set}
use Rattle.std.proofs.lemmas.List.{length_push, length-reverse}
use Rattle.std.proofs.lemmas.Iterator.Adapters.{YieldsList-from_rev_slice}
use Rattle.std.proofs.lemmas.Iterator.Consumers.{YieldsList-turn, YieldsList-end}
use lib.ListN.{length-replicate}
use Rattle.routes.proofs.Costs.{holds_none, holds_more, holds_written, from_end}
use Rattle.routes.proofs.matrix.costs_of.Goals as goal

pub loop-link-init : goal.loop-link-init
loop-link-init c = record { size = length-replicate {A = ℕ} 4096 0; so_far = omega arith; holds = holds_none c.args.nodes c.args.links.now c.requires.0 }

pub put-requires : goal.put-requires
put-requires c =
    let t = YieldsList-turn (YieldsList-from_rev_slice c.args.links.now cc) c.loop-link.yielded _ c.loop-link.yielded_by _ _ c.in-Some.link c.in-Some.is c.next.ensures.steps in
    let e = from_end c.args.nodes c.args.links.now _ _ c.requires.1 t in
    (omega (arith, e.2, e.3, c.requires.0), omega (arith, e.3, c.requires.0))

pub loop-link-preserved : goal.loop-link-preserved
loop-link-preserved c =
    let t = YieldsList-turn (YieldsList-from_rev_slice c.args.links.now cc) c.loop-link.yielded _ c.loop-link.yielded_by _ _ c.in-Some.link c.in-Some.is c.next.ensures.steps in
    let i = c.loop-link.invariant in
    let e = from_end c.args.nodes c.args.links.now _ _ c.requires.1 t in
    let n = length_push c.loop-link.yielded c.in-Some.link in
    record {
      size = rw c.put.ensures (simp length-set i.size);
      so_far = omega (arith, n, e.0);
      holds = rw (n, c.put.ensures) (holds_more c.args.nodes c.args.links.now _ c.in-Some.link.now c.loop-link.costs c.requires.0 c.requires.1 t i.size i.holds);
    }

pub returns : goal.returns
returns c =
    let t = YieldsList-end (YieldsList-from_rev_slice c.args.links.now cc) c.loop-link.yielded _ c.loop-link.yielded_by _ _ c.in-None.is c.next.ensures.steps in
    holds_written c.args.nodes c.args.links.now _ c.loop-link.costs c.requires.1 (omega (arith, t.1, length-reverse c.args.links.now)) c.loop-link.invariant.holds
