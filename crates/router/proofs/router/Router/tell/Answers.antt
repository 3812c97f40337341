use Rattle.std.proofs.Common.{vec_items, sym, append-nil, arith}
use Rattle.protocol.specs.Hearing.{tell}
use Rattle.router.proofs.Sayings.{tell_more}
use Rattle.router.proofs.router.Router.tell.Goals as goal
use Rattle.router.specs.Model.{model}

pub loop-k-init : goal.loop-k-init
unfolding tell
loop-k-init c = (omega arith, sym (append-nil (vec_items c.args.said.now)))

pub loop-k-preserved : goal.loop-k-preserved
loop-k-preserved c =
    let s = model c.args.self.now in (
      omega arith,
      tell_more s.links c.args.link s.me c.loop-k.k (vec_items c.args.said.now) (vec_items c.loop-k.said) _ c.loop-k.invariant.1 c.tell_one.ensures.items,
    )
