use Rattle.std.proofs.Common.{◌*◌, ◌<◌, ◌≤◌}
use Rattle.depthpack.proofs.plain.put_fraction.Given as goal

abbrev pub invariant-loop-i : goal.invariant-loop-i
invariant-loop-i l = (l.rest < l.d) × (l.groups ≤ l.i) × (l.scale ≤ 4 * l.i) × (l.left_out ≤ l.i)
