use Rattle.std.proofs.Common.{◌≡◌, ◌*◌, ◌%◌, ◌^◌, ◌<◌, subst, arith}
use Rattle.packed.specs.Digits.{AllDigits, decimal}
use Rattle.packed.specs.Decimals.{decimal_lt}
use Rattle.packed.proofs.Sixteen.{tenfold_digits, tenfold_value, tenfold_passes}
use Rattle.packed.proofs.packed_decimal.PackedDecimal.tenfold.Goals as goal

pub returns-then-self-ne0 : goal.returns-then-self-ne0
returns-then-self-ne0 c fits = omega (arith, tenfold_passes c.args.self.word (omega arith) (omega arith))

pub invariant_of-result : goal.invariant_of-result
invariant_of-result c =
    let small : c.args.self.word < 2 ^ 60 = omega arith in
    let same : c.args.self.word * 16 ≡ c.args.self.word * 16 % 2 ^ 64 = omega arith in
    record { digits = subst (AllDigits 16) same (tenfold_digits c.args.self.word c.args.self.digits small) }

pub returns : goal.returns
returns c =
    let small : c.args.self.word < 2 ^ 60 = omega arith in
    let same : c.args.self.word * 16 % 2 ^ 64 ≡ c.args.self.word * 16 = omega arith in
    let value : decimal 16 (c.args.self.word * 16) ≡ decimal 16 c.args.self.word * 10 = tenfold_value c.args.self.word small in
    (omega (arith, value, decimal_lt 16 (c.args.self.word * 16) (tenfold_digits c.args.self.word c.args.self.digits small)), rw same value)
