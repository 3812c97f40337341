use Rattle.std.proofs.Common.{◌≡◌, ◌++◌, take, vec_items}
use Rattle.std.specs.List.{flat_map}
use Rattle.endpoint.specs.Frames.{sent_bytes}
use Rattle.endpoint.proofs.message.write_each.Given as goal

abbrev pub invariant-loop-sent : goal.invariant-loop-sent
invariant-loop-sent l = vec_items l.out ≡ (vec_items l.initial.out ++ flat_map sent_bytes (take l.sent-index l.said))
