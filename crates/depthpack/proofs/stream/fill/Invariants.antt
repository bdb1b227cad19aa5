use Rattle.std.proofs.Common.{◌-◌, ◌≤◌}
use Rattle.depthpack.proofs.stream.fill.Given as goal

abbrev pub invariant-loop-filled : goal.invariant-loop-filled
invariant-loop-filled g l = l.filled ≤ 65_520

abbrev pub decreases-loop-filled : goal.decreases-loop-filled
decreases-loop-filled g l = 65_520 - l.filled
