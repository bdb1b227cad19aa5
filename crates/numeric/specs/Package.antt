-- The package of PostgreSQL's binary NUMERIC, its amount, and the package that a fraction is written as.
use Rattle.std.specs.Prelude.{ℕ, zero, suc, ◌+◌, ◌-◌, ◌*◌, ◌/◌, ◌%◌, ◌^◌, ◌<◌, ◌≤◌, min, max, Bool, cond, List, [], ◌∷◌, ◌++◌, length, take, drop, ℤ, pos, negsuc, ◌==◌, nat_lt}
use Rattle.std.specs.List.{prefix_len, suffix_len}
use Rattle.generic.specs.declared.sign.Sign.{Sign}
use Rattle.generic.specs.declared.sign.Sign.TheVariants.{Plus, Minus}
use Rattle.fraction.specs.Meaning.{Meaning, rational, infinity, nan}
use Rattle.numeric.specs.Cut.{cut, scale_of}

-- sign is a sign word.
pub record Package : Type 0 where
  pub weight : ℤ
  pub sign : ℕ
  pub scale : ℕ
  pub groups : List ℕ

abbrev pub ndigits : Package → ℕ
ndigits q = length q.groups

-- THE SIGN WORDS

abbrev pub plus_word : ℕ
plus_word = 0x0000

abbrev pub minus_word : ℕ
minus_word = 0x4000

abbrev pub nan_word : ℕ
nan_word = 0xC000

abbrev pub plus_infinity_word : ℕ
plus_infinity_word = 0xD000

abbrev pub minus_infinity_word : ℕ
minus_infinity_word = 0xF000

-- Of a number with the sign.
abbrev pub sign_word : Sign → ℕ
sign_word Plus = plus_word
sign_word Minus = minus_word

-- Of an infinity with the sign.
abbrev pub infinity_word : Sign → ℕ
infinity_word Plus = plus_infinity_word
infinity_word Minus = minus_infinity_word

-- THE AMOUNT, in units of 10000^(-e)

-- weight - i + e is not below 0.
abbrev pub Reaches : ℤ → ℕ → ℕ → Type 0
Reaches (pos a) e i = i ≤ a + e
Reaches (negsuc z) e i = suc z + i ≤ e

-- weight - i + e, where that is not below 0.
abbrev pub exponent : ℤ → ℕ → ℕ → ℕ
exponent (pos a) e i = a + e - i
exponent (negsuc z) e i = e - (suc z + i)

-- The sum of g_i × 10000^(weight - i + e), from the place i on.
abbrev pub amount_from : ℤ → ℕ → ℕ → List ℕ → ℕ
amount_from w e i [] = 0
amount_from w e i (g ∷ gs) = g * 10000 ^ exponent w e i + amount_from w e (suc i) gs

abbrev pub amount : Package → ℕ → ℕ
amount q e = amount_from q.weight e 0 q.groups

-- e is large enough that no weight - i + e is below 0.
abbrev pub Enough : Package → ℕ → Type 0
Enough q e = (i : ℕ) → i < ndigits q → Reaches q.weight e i

-- THE GROUPS of a number Q in units of 10^(-s): its whole part is Q / 10^s

-- The last k digits of n in base b, the highest first.
abbrev pub digits_in : ℕ → ℕ → ℕ → List ℕ
digits_in b zero n = []
digits_in b (suc k) n = digits_in b k (n / b) ++ (n % b ∷ [])

-- The least of i, i + 1, .., i + k - 1 that passes the test, and i + k where none does.
abbrev pub least_from : (ℕ → Bool) → ℕ → ℕ → ℕ
least_from f zero i = i
least_from f (suc k) i = let r = least_from f k (suc i) in cond (f i) i r

-- How many digits n has in base b without leading zeros, none for 0: the least w with n < b^w.
unfoldable pub width : ℕ → ℕ → ℕ
width b n = least_from (λ w. nat_lt n (b ^ w)) n 0

-- How many groups the whole part takes: none where it is 0.
abbrev pub whole_groups : ℕ → ℕ → ℕ
whole_groups Q s = width 10000 (Q / 10 ^ s)

-- How many groups of four hold k digits.
abbrev pub fours : ℕ → ℕ
fours k = (k + 3) / 4

-- Q with the last group filled up with zeros on the right.
abbrev pub filled : ℕ → ℕ → ℕ
filled Q s = Q * 10 ^ (4 * fours s - s)

-- All groups, of the whole part and of s decimals.
abbrev pub all_groups : ℕ → ℕ → List ℕ
all_groups Q s = digits_in 10000 (whole_groups Q s + fours s) (filled Q s)

-- THE WRITING RULE

abbrev pub is_zero : ℕ → Bool
is_zero g = g == 0

-- Without the zero groups before the first other.
abbrev pub no_leading : List ℕ → List ℕ
no_leading gs = drop (prefix_len is_zero gs) gs

-- Without the zero groups after the last other.
abbrev pub no_trailing : List ℕ → List ℕ
no_trailing gs = take (length gs - suffix_len is_zero gs) gs

-- Every group stands, but those before the first other where the whole part is 0, and those after the last other of a whole number.
unfoldable pub groups_of : ℕ → ℕ → List ℕ
groups_of Q s =
    cond (Q / 10 ^ s == 0) (no_leading (all_groups Q s))
    (cond (s == 0) (no_trailing (all_groups Q s)) (all_groups Q s))

-- The groups of the whole part less 1. Where it is 0: -1, less one for each zero group left out that four decimals were taken for.
unfoldable pub weight_of : ℕ → ℕ → ℤ
weight_of Q s = cond (Q / 10 ^ s == 0) (negsuc (min (prefix_len is_zero (all_groups Q s)) (s / 4))) (pos (whole_groups Q s - 1))

-- Q in units of 10^(-s), with a sign word.
abbrev pub package_of : ℕ → ℕ → ℕ → Package
package_of sign Q s = record { weight = weight_of Q s; sign = sign; scale = s; groups = groups_of Q s }

-- A sign word and else zeros, with no group: zero, no number and the infinities.
abbrev pub bare : ℕ → Package
bare sign = record { weight = pos 0; sign = sign; scale = 0; groups = [] }

abbrev pub precision_in_force : ℕ → ℕ
precision_in_force p = max 1 (min p 16383)

-- n over d, n above 0, cut after s decimals.
abbrev pub cut_package : Sign → ℕ → ℕ → ℕ → Package
cut_package sign n d s = package_of (sign_word sign) (cut n d s) s

-- What a fraction is written as at a precision.
unfoldable pub written : Meaning → ℕ → Package
written (rational sign n d) p = cond (n == 0) (bare plus_word) (cut_package sign n d (scale_of n d (precision_in_force p)))
written (infinity sign) p = bare (infinity_word sign)
written nan p = bare nan_word
