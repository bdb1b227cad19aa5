-- The depth that a sign, a numerator and a denominator give.
use Rattle.std.specs.Prelude.{ℕ, cond, ◌==◌}
use Rattle.generic.specs.declared.sign.Sign.{Sign}
use Rattle.fraction.specs.Made.{raw}
use Rattle.fraction.specs.declared.generic_fraction.GenericFraction.{GenericFraction}
use Rattle.fraction.specs.declared.generic_fraction.GenericFraction.TheVariants.{Infinity, NaN}

-- Over 0, a numerator is an infinity of the sign, and 0 is no number.
abbrev pub depth : Sign → ℕ → ℕ → GenericFraction ℕ
depth sign n d = cond (d == 0) (cond (n == 0) NaN (Infinity sign)) (raw sign n d)
