use Rattle.std.proofs.Common.{◌≡◌, ◌++◌, take, vec_items}
use Rattle.std.specs.List.{flat_map}
use Rattle.wire.specs.Packets.{segment_bytes}
use Rattle.wire.proofs.segment.emit_segments.Given as goal

abbrev pub invariant-loop-segment : goal.invariant-loop-segment
invariant-loop-segment l =
    vec_items l.out ≡ (vec_items l.initial.out ++ flat_map segment_bytes (take l.segment-index l.segments))
