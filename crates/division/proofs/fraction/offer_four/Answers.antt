use Rattle.division.proofs.Blocks.{went_four}
use Rattle.division.proofs.Tests.{not_zero}
use Rattle.division.proofs.fraction.offer_four.Goals as goal

pub returns : goal.returns
returns g c =
    let number = g.T.CountingNumber.number in
    let p = c.args.fraction.now in
    let next = c.next_four-four.ensures in (
      not_zero _ c.if-is_zero.ensures.1,
      next.divisor,
      went_four g.S.DigitSink.step (number p.divisor) (number p.remainder) c.next_four-four.result.0 _ _ _ p.below next.digits next.remainder c.put_four.ensures.took,
      c.put_four.ensures.on,
    )
