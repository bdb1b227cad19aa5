use Rattle.std.proofs.Common.{◌∙◌}
use Rattle.division.proofs.Due.{due_block}
use Rattle.division.proofs.fraction.advance.Goals as goal

pub fours-preserved : goal.fours-preserved
fours-preserved g c =
    let s = g.S.DigitSink in
    let inv = c.fours.invariant in
    let block = c.in-Some.ensures in (
      block.1 ∙ inv.0,
      due_block s.step (g.T.CountingNumber.number c.args.first.divisor) _ _ _ _ 4 _ _ _ _ block.0 (rw inv.0 at block.2) inv.1,
      g.met.S.DigitSink.order.joins _ _ _ inv.2 block.3,
    )
