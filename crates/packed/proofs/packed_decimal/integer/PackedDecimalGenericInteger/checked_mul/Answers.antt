use Rattle.std.proofs.Common.{◌≡◌, ap, ◌∙◌, mul_comm}
use Rattle.packed.specs.Digits.{decimal}
use Rattle.packed.proofs.Sixteen.{ten_sixteen}
use Rattle.packed.proofs.packed_decimal.integer.PackedDecimalGenericInteger.checked_mul.Goals as goal

pub returns-then-other-eq-TEN : goal.returns-then-other-eq-TEN
returns-then-other-eq-TEN c =
    let ten : decimal 16 c.args.other.word ≡ 10 = ap (decimal 16) c.if-other-eq-TEN.true ∙ ten_sixteen in
    rw ten c.tenfold.ensures

pub returns-then-self-eq-TEN : goal.returns-then-self-eq-TEN
returns-then-self-eq-TEN c =
    let ten : decimal 16 c.args.self.word ≡ 10 = ap (decimal 16) c.if-self-eq-TEN.true ∙ ten_sixteen in
    rw (ten, mul_comm 10 (decimal 16 c.args.other.word)) c.tenfold-then-self-eq-TEN.ensures
