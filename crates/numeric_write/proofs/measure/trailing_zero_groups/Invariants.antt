use Rattle.std.proofs.Common.{◌≡◌, ◌*◌, ◌^◌, ◌<◌}
use Rattle.numeric_write.proofs.measure.trailing_zero_groups.Given as goal

abbrev pub invariant-groups : goal.invariant-groups
invariant-groups g l =
    (0 < g.T.CountingNumber.number l.rest)
    × (g.T.CountingNumber.number l.rest * 10000 ^ l.zeros ≡ g.T.CountingNumber.number l.initial.rest)

abbrev pub decreases-groups : goal.decreases-groups
decreases-groups g l = g.T.CountingNumber.number l.rest
