use Rattle.std.proofs.Common.{◌≡◌, vec_items}
use Rattle.router.specs.Model.{model}
use Rattle.endpoint.specs.Frames.{saying, switch_below}
use Rattle.endpoint.proofs.message.settle.Given as goal

abbrev pub invariant-loop-destination : goal.invariant-loop-destination
invariant-loop-destination l = record {
  last : l.destination-iterator.end ≡ (model l.initial.router).links.n;
  asked :
      saying (model l.router) (vec_items l.said) ≡
      switch_below l.destination-iterator.next (saying (model l.initial.router) (vec_items l.initial.said));
}
