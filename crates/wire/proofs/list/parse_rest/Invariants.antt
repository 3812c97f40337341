use Rattle.std.proofs.Common.{◌≡◌, ◌-◌, ◌++◌, None, vec_items}
use Rattle.wire.specs.Cursor.{read_as}
use Rattle.wire.specs.Lists.{links_in}
use Rattle.wire.proofs.ListBytes.{last_of}
use Rattle.wire.proofs.list.parse_rest.Given as goal

-- the links that are left, behind those that are read
abbrev pub invariant-loop : goal.invariant-loop
invariant-loop l =
    let left = l.count - l.counter in
    let all = links_in l.nodes l.count None l.cursor.size l.cursor.bytes.now in
    let read = vec_items l.links in
    read_as (λ ls. read ++ ls) (links_in l.nodes left (last_of read) l.rest.size l.rest.bytes.now) ≡ all
