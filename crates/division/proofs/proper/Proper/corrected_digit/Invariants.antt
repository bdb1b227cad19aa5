use Rattle.std.proofs.Common.{◌+◌, ◌*◌}
use Rattle.division.proofs.Trial.{Trial}
use Rattle.division.proofs.proper.Proper.corrected_digit.Given as goal

abbrev pub invariant-trial : goal.invariant-trial
invariant-trial g l =
    let number = g.T.CountingNumber.number in
    let a = number l.tenth in
    Trial 10 a l.unit (10 * a + l.unit) (l.initial.digit * a + number l.initial.rest) l.digit (number l.rest)

abbrev pub decreases-trial : goal.decreases-trial
decreases-trial g l = l.digit
