use Rattle.std.proofs.Common.{◌*◌, ◌^◌, ◌<◌, ◌≤◌}
use Rattle.division.specs.Expansion.{digits}
use Rattle.division.specs.Sink.{tally}
use Rattle.division.proofs.Puts.{Remain}
use Rattle.division.proofs.block.put_all.Given as goal

abbrev pub invariant-loop-groups : goal.invariant-loop-groups
invariant-loop-groups g l =
    let s = g.S.DigitSink in
    let now = l.sink in
    let was = l.initial.sink in
    (l.groups ≤ 4)
    × (l.rest < 10 ^ (4 * l.groups))
    × (4 * l.groups ≤ s.left now)
    × Remain s.step (tally s was) (digits 1 l.initial.rest (4 * l.initial.groups) (4 * l.initial.groups)) (tally s now) (digits 1 l.rest (4 * l.groups) (4 * l.groups))
    × s.on was now
