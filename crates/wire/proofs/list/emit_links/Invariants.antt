use Rattle.std.proofs.Common.{◌≡◌, ◌++◌, take, vec_items}
use Rattle.std.specs.List.{flat_map}
use Rattle.wire.specs.Lists.{link_bytes}
use Rattle.wire.proofs.list.emit_links.Given as goal

abbrev pub invariant-loop-link : goal.invariant-loop-link
invariant-loop-link l =
    vec_items l.out ≡ (vec_items l.initial.out ++ flat_map link_bytes (take l.link-index l.links))
