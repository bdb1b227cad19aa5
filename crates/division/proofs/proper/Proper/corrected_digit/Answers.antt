use Rattle.std.proofs.Common.{◌≡◌, ◌+◌, ◌*◌, ◌≤◌, refl, ◌∙◌, arith}
use Rattle.division.proofs.Trial.{Trial, start_divisor, start_rest, trial_done}
use Rattle.division.proofs.proper.Proper.corrected_digit.Goals as goal
use Rattle.division.proofs.proper.Proper.corrected_digit.Goals.{At-trial}
use Rattle.division.proofs.proper.Proper.corrected_digit.Given as given

-- What the loop's invariant says of r and d themselves.
began : (g : given.Over) (c : At-trial g) → Trial 10 (g.T.CountingNumber.number c.unwrap-tenth.result.0) c.unwrap-unit.result (g.T.CountingNumber.number c.args.self.now.divisor) (g.T.CountingNumber.number c.args.self.now.remainder) c.trial.digit (g.T.CountingNumber.number c.trial.rest)
began g c =
    let number = g.T.CountingNumber.number in
    let tenth = rw (c.unwrap-tenth.ensures, c.ten-ten.ensures) at c.div_rem.ensures in
    let unit = rw c.unwrap-unit.ensures at c.to_u8.ensures in
    let trial = rw c.unwrap-trial.ensures at c.div_rem-2.ensures in
    let digit = rw c.unwrap-digit.ensures at c.to_u8-2.ensures in
    let wide : 10 ≤ number c.args.self.now.divisor = omega (arith, g.met.T.GenericInteger.words) in
    let ed = start_divisor 10 (number c.args.self.now.divisor) (number c.args.self.now.remainder) _ _ _ _ (omega arith) tenth.1 (unit.1 ∙ tenth.2) (digit.1 ∙ trial.1) trial.2 c.args.self.now.below wide in
    let er = start_rest 10 (number c.args.self.now.divisor) (number c.args.self.now.remainder) _ _ _ _ (omega arith) tenth.1 (unit.1 ∙ tenth.2) (digit.1 ∙ trial.1) trial.2 c.args.self.now.below wide in
    rw (ed, er) at c.trial.invariant

pub returns : goal.returns
returns g c =
    let number = g.T.CountingNumber.number in
    let q = c.trial.digit in
    let b = c.unwrap-unit.result in
    let t = began g (goal.at.returns g c).At-trial in
    let less = rw c.unwrap.ensures at c.checked_sub.ensures in
    let tenfold = rw (c.unwrap-tenfold.ensures, c.ten-ten.ensures) at c.checked_mul.ensures in
    let rem = rw c.unwrap-remainder.ensures at c.checked_add-else-is_lt.ensures in
    let e : number c.unwrap-remainder.result + q * b ≡ 10 * number c.trial.rest = omega (arith, less, tenfold.1, rem.1, c.from.ensures, c.from_u16-whole.ensures, c.from-else-is_lt.ensures, c.from_u16-over.ensures) in
    let done = trial_done 10 _ _ _ _ _ _ t (number c.unwrap-remainder.result) e c.args.self.now.below in
    record { next = record { digits = done.0; remainder = done.1; divisor = refl }; small = done.2 }
