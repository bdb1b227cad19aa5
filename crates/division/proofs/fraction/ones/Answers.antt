use Rattle.std.proofs.Common.{◌∙◌}
use Rattle.division.proofs.Due.{due_fraction}
use Rattle.division.proofs.Tests.{not_zero}
use Rattle.division.proofs.fraction.ones.Goals as goal

pub digits-preserved : goal.digits-preserved
digits-preserved g c =
    let inv = c.digits.invariant in
    let next = c.next_digit-digit.ensures.next in
    let d = g.T.CountingNumber.number c.args.first.divisor in
    let some = not_zero _ c.digits-test.ensures.1 in (
      next.divisor ∙ inv.0,
      due_fraction g.S.DigitSink.step d _ _ _ _ _ _ _ _ _ some (rw inv.0 at next.digits) (rw inv.0 at next.remainder) c.in-More.ensures.offered.2 inv.1,
      g.met.S.DigitSink.order.joins _ _ _ inv.2 c.in-More.ensures.on,
    )
