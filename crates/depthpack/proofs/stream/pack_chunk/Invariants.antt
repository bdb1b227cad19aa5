use Rattle.std.proofs.Common.{◌≤◌}
use Rattle.depthpack.proofs.stream.pack_chunk.Given as goal

abbrev pub invariant-loop-bytes : goal.invariant-loop-bytes
invariant-loop-bytes g l =
    (goal.iterator-loop-bytes g).can_next l.bytes-iterator ×
    (goal.iterator-loop-bytes g).is_finite l.bytes-iterator × (l.used ≤ 131_072)
