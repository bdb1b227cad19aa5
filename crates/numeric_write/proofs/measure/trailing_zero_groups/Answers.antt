use Rattle.std.proofs.Common.{◌≡◌, ℕ, ◌+◌, ◌*◌, ◌%◌, ◌^◌, sym, ap, ◌∙◌, arith}
use Rattle.numeric_write.proofs.Measuring.{zeros_more}
use Rattle.numeric_write.proofs.measure.trailing_zero_groups.Goals as goal

pub groups-preserved : goal.groups-preserved
groups-preserved g c =
    let x : ℕ = g.T.CountingNumber.number c.args.whole in
    let r : ℕ = g.T.CountingNumber.number c.groups.rest in
    let divided = rw (c.from_u16-base.ensures) at (rw c.unwrap-above.ensures at c.div_rem.ensures) in
    let last : r % 10000 ≡ 0 = sym divided.2 ∙ c.is_zero.ensures.0 c.if-not-is_zero.false in
    (omega (arith, c.groups.invariant.0, divided.1), ap (λ k. k * 10000 ^ (c.groups.zeros + 1)) divided.1 ∙ zeros_more x r c.groups.zeros last c.groups.invariant.1)
