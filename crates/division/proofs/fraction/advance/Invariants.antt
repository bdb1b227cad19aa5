use Rattle.std.proofs.Common.{◌≡◌}
use Rattle.division.specs.Expansion.{coming}
use Rattle.division.specs.Sink.{tally}
use Rattle.division.proofs.Due.{Due}
use Rattle.division.proofs.fraction.advance.Given as goal

abbrev pub invariant-fours : goal.invariant-fours
invariant-fours g l =
    let s = g.S.DigitSink in
    let number = g.T.CountingNumber.number in
    let d = number l.fn.first.divisor in
    let now = l.sink in
    let was = l.initial.sink in
    (l.fraction.divisor ≡ l.fn.first.divisor)
    × Due s.step d (number l.fn.first.remainder) 0 (coming d (number l.fn.first.remainder) (s.left was)) (tally s was) (number l.fraction.remainder) 0 (coming d (number l.fraction.remainder) (s.left now)) (tally s now)
    × s.on was now

abbrev pub decreases-fours : goal.decreases-fours
decreases-fours g l = g.S.DigitSink.left l.sink
