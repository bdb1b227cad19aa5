use Rattle.std.proofs.Common.{ap, ◌∙◌, arith}
use Rattle.division.proofs.Places.{digit_small}
use Rattle.division.proofs.Due.{due_whole}
use Rattle.division.proofs.Tests.{there}
use Rattle.division.proofs.whole.advance.Goals as goal

pub unwrap-requires-in-digits : goal.unwrap-requires-in-digits
unwrap-requires-in-digits g c =
    let divided = rw c.unwrap.ensures at c.div_rem.ensures in
    there _ _ _ _ c.to_u8.ensures (omega (arith, digit_small _ _ _ _ _ c.digits.invariant.3, divided.1))

pub unreachable-requires : goal.unreachable-requires
unreachable-requires g c =
    let divided = rw c.unwrap.ensures at c.div_rem.ensures in
    let byte = rw c.unwrap-in-digits.ensures at c.to_u8.ensures in
    omega (arith, digit_small _ _ _ _ _ c.digits.invariant.3, divided.1, byte.1, c.in-NotDigit.ensures.offered.0)

pub digits-preserved : goal.digits-preserved
digits-preserved g c =
    let number = g.T.CountingNumber.number in
    let inv = c.digits.invariant in
    let going = c.in-Whole.ensures in
    let sound = inv.3 in
    let divided = rw c.unwrap.ensures at c.div_rem.ensures in
    let byte = rw c.unwrap-in-digits.ensures at c.to_u8.ensures in
    let digit = rw sound.unit at divided.1 in
    let next = rw sound.unit at divided.2 in (
      rw going.2
          (due_whole g.S.DigitSink.step (number c.digits.state.divisor) _ _ _ _ (number c.digits.state.rest) c.digits.state.place _ c.unwrap-in-digits.result _ _ _ sound.place (byte.1 ∙ digit) (ap number going.1 ∙ next) going.3 c.in-More.ensures.offered.2 inv.0),
      g.met.S.DigitSink.order.joins _ _ _ inv.1 c.in-More.ensures.on,
      going.2 ∙ inv.2,
      going.4,
    )
