-- What the digits of a word come to: the law of the packed decimal as a counting number rests on it.
use Rattle.std.specs.Prelude.{ℕ, zero, suc, ◌*◌, ◌^◌, ◌<◌, ◌≤◌}
use Rattle.std.proofs.Common.{pow-suc, mul-le-mul_right, arith}
use Rattle.packed.specs.Digits.{nibble, AllDigits, decimal}

pub decimal_lt : (k w : ℕ) → AllDigits k w → decimal k w < 10 ^ k
unfolding decimal
decimal_lt zero w d = omega arith
decimal_lt (suc k) w d =
    let low : decimal k w < 10 ^ k = decimal_lt k w (λ i h. d i (omega arith)) in
    let top : nibble w k * 10 ^ k ≤ 9 * 10 ^ k = mul-le-mul_right (10 ^ k) (d k (omega arith)) in
    omega (arith, pow-suc 10 k)
