use Rattle.std.proofs.Common.{◌≡◌, ◌+◌, ◌-◌, ◌≤◌, ◌++◌, vec_items, vec_len, vec_capacity}
use Rattle.protocol.specs.Hearing.{tell}
use Rattle.router.proofs.router.Router.tell.Given as goal
use Rattle.router.specs.Model.{model}

abbrev pub invariant-loop-k : goal.invariant-loop-k
invariant-loop-k l =
    let s = model l.self in
    (vec_len l.said + (64 - l.k) ≤ vec_capacity l.said) × (vec_items l.said ≡ vec_items l.initial.said ++ tell s.links l.link s.me l.k)
