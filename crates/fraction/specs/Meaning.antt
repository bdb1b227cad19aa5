-- What a fraction means, whatever the type of its numbers.
use Rattle.std.specs.Prelude.{◌≡◌, ℕ, ◌<◌, Some, None, Option}
use Rattle.generic.specs.declared.sign.Sign.{Sign}
use Rattle.fraction.specs.declared.generic_fraction.GenericFraction.{GenericFraction}
use Rattle.fraction.specs.declared.generic_fraction.GenericFraction.TheVariants.{Rational, Infinity, NaN}

-- A sign, a numerator and a denominator; an infinity with its sign; or no number.
pub data Meaning : Type 0 where
  rational : Sign → ℕ → ℕ → Meaning
  infinity : Sign → Meaning
  nan : Meaning

abbrev pub meant : {X : Type 0} → (X → ℕ) → GenericFraction X → Meaning
meant number (Rational s q) = rational s (number q.numer) (number q.denom)
meant number (Infinity s) = infinity s
meant number NaN = nan

-- What every maker promises: the denominator of a rational is not 0.
abbrev pub Sound : Meaning → Type 0
Sound (rational s n d) = 0 < d
Sound (infinity s) = Unit {0}
Sound nan = Unit {0}

abbrev pub numerator : Meaning → Option ℕ
numerator (rational s n d) = Some n
numerator (infinity s) = None
numerator nan = None

abbrev pub denominator : Meaning → Option ℕ
denominator (rational s n d) = Some d
denominator (infinity s) = None
denominator nan = None

abbrev pub signed : Meaning → Option Sign
signed (rational s n d) = Some s
signed (infinity s) = Some s
signed nan = None

-- A zero of either sign.
abbrev pub Zero : Meaning → Type 0
Zero (rational s n d) = n ≡ 0
Zero (infinity s) = ⊥
Zero nan = ⊥

-- An infinity of either sign.
abbrev pub Infinite : Meaning → Type 0
Infinite (rational s n d) = ⊥
Infinite (infinity s) = Unit {0}
Infinite nan = ⊥
