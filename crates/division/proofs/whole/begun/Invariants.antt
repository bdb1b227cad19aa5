use Rattle.std.proofs.Common.{◌≡◌, ◌+◌, ◌-◌, ◌*◌, ◌^◌, ◌<◌, ◌≤◌}
use Rattle.division.proofs.whole.begun.Given as goal

abbrev pub invariant-widen : goal.invariant-widen
invariant-widen g l =
    let number = g.T.CountingNumber.number in
    (0 < l.place)
    × (number l.unit ≡ 10 ^ (l.place - 1) * number l.initial.unit)
    × (1 < l.place → number l.unit ≤ number l.n)
    × (0 < number l.unit)

abbrev pub decreases-widen : goal.decreases-widen
decreases-widen g l = 1 + g.T.CountingNumber.greatest - g.T.CountingNumber.number l.unit
