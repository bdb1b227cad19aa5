use Rattle.std.proofs.Common.{◌≡◌, min}
use Rattle.division.specs.Sink.{tally}
use Rattle.division.specs.Sound.{SoundState}
use Rattle.division.proofs.Due.{Due}
use Rattle.division.proofs.whole.advance.Given as goal

abbrev pub invariant-digits : goal.invariant-digits
invariant-digits g l =
    let s = g.S.DigitSink in
    let number = g.T.CountingNumber.number in
    let d = number l.state.divisor in
    let now = l.sink in
    let was = l.initial.sink in
    Due s.step d (number l.initial.state.rest) l.initial.state.place (min (s.left was) l.initial.state.place) (tally s was)
    (number l.state.rest) l.state.place (min (s.left now) l.state.place) (tally s now)
    × s.on was now
    × (l.state.divisor ≡ l.initial.state.divisor)
    × SoundState g.T.CountingNumber l.state

abbrev pub decreases-digits : goal.decreases-digits
decreases-digits g l = l.state.place
