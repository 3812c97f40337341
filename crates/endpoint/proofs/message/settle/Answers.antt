use Rattle.std.proofs.Common.{sym, ap, ◌∙◌, add-one, subst, vec_items}
use Rattle.protocol.specs.Router.{Router}
use Rattle.router.specs.Model.{model}
use Rattle.types.specs.declared.nodes.Nodes.{Nodes}
use Rattle.endpoint.specs.Frames.{saying, Served, IsSettled}
use Rattle.endpoint.proofs.Settling.{none_asked, one_more, settled}
use Rattle.endpoint.proofs.message.settle.Goals as goal

pub loop-destination-init : goal.loop-destination-init
loop-destination-init c =
    let x : Served = saying (model c.args.router.now) (vec_items c.args.said.now) in
    let nodes = c.into_iter-destination-iterator.ensures.into_iter_gives in
    record {
      last =
          ap (λ (i : Nodes). i.end) nodes ∙
          (c.all-destination-items.ensures.to_the_last ∙ c.nodes.ensures.value);
      asked = rw (nodes, c.all-destination-items.ensures.from_the_first) (none_asked x);
    }

pub loop-destination-preserved : goal.loop-destination-preserved
loop-destination-preserved c =
    let x : Served = saying (model c.args.router.now) (vec_items c.args.said.now) in
    let d = c.in-Some.destination in
    let steps = c.in-Some.ensures.steps in
    let loop = c.loop-destination.invariant in
    let asked = rw (← steps.1.0) at loop.asked in
    record {
      last = steps.0 ∙ loop.last;
      asked = rw (steps.1.2, add-one) (one_more d x _ _ _ _ asked c.in_ok-switch.ensures.ok);
    }

pub returns-clause-settled : goal.returns-clause-settled
returns-clause-settled c =
    let x : Served = saying (model c.args.router.now) (vec_items c.args.said.now) in
    let loop = c.loop-destination.invariant in
    let asked = rw (c.in-None.ensures.steps.1.0, loop.last) at loop.asked in
    let P : Router → Type 0 = IsSettled in
    subst P (sym (ap (λ (y : Served). y.router) asked)) (settled x)
