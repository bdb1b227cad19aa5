-- Which fours of bits of a word are above 9, all at once.
use Rattle.std.proofs.Common.{◌≡◌, ℕ, zero, suc, ◌+◌, ◌*◌, ◌/◌, ◌%◌, ◌<◌, ◌≤◌, min, max, eqb, Decides, ap, ◌∙◌, inl, inr, arith}
use native.Mathlib.Nat.{div-div-eq-div-mul}
use lib.Bits.{bit_and, bit_or, and_step, or_step, and_shr, or_shr, and_zero_r}
use Rattle.std.proofs.lemmas.Bool.{eqb-true, eq-eqb, cases_lt}
use Rattle.packed.specs.Digits.{AllDigits}
use Rattle.packed.proofs.Lowest.{digits_cons, digits_head, digits_tail, lowest_bits, pick_lowest}

-- in the lowest bit of each four: whether its 8 stands together with its 4 or its 2
unfoldable pub above_nine : ℕ → ℕ
above_nine w = bit_and (w / 8) (bit_or (w / 4) (w / 2))

lowest_flag : (w : ℕ) → above_nine w % 2 ≡ min (w / 8 % 2) (max (w / 4 % 2) (w / 2 % 2))
unfolding above_nine
lowest_flag w = omega (arith, and_step (w / 8) (bit_or (w / 4) (w / 2)), or_step (w / 4) (w / 2))

-- four bits, highest first: 8 with 4 or 2 is above 9
bits_none : (a b c d : ℕ) → a < 2 → b < 2 → c < 2 → d < 2 → min a (max b c) ≡ 0 → 8 * a + 4 * b + 2 * c + d ≤ 9
bits_none a b c d ha hb hc hd none =
    elim (cases_lt a 1) [ inl off ↦ omega arith | inr on ↦ let one : a ≡ 1 = omega arith in let rest : max b c ≡ 0 = omega (arith, none) in omega arith ]

none_bits : (a b c d : ℕ) → a < 2 → b < 2 → c < 2 → d < 2 → 8 * a + 4 * b + 2 * c + d ≤ 9 → min a (max b c) ≡ 0
none_bits a b c d ha hb hc hd low =
    elim (cases_lt a 1) [ inl off ↦ omega arith | inr on ↦ let second : b ≡ 0 = omega arith in let third : c ≡ 0 = omega arith in omega arith ]

bits : (w : ℕ) → w % 16 ≡ 8 * (w / 8 % 2) + 4 * (w / 4 % 2) + 2 * (w / 2 % 2) + w % 2
bits w = omega (arith, div-div-eq-div-mul w 2 2, div-div-eq-div-mul w 4 2, div-div-eq-div-mul w 8 2)

low_digit : (w : ℕ) → above_nine w % 2 ≡ 0 → w % 16 ≤ 9
low_digit w none =
    omega (arith, bits w, bits_none (w / 8 % 2) (w / 4 % 2) (w / 2 % 2) (w % 2) (omega arith) (omega arith) (omega arith) (omega arith) (omega (arith, lowest_flag w)))

digit_low : (w : ℕ) → w % 16 ≤ 9 → above_nine w % 2 ≡ 0
digit_low w low =
    omega (arith, lowest_flag w, none_bits (w / 8 % 2) (w / 4 % 2) (w / 2 % 2) (w % 2) (omega arith) (omega arith) (omega arith) (omega arith) (omega (arith, bits w)))

above_high : (w : ℕ) → above_nine w / 16 ≡ above_nine (w / 16)
unfolding above_nine
above_high w =
    let eighth : w / 8 / 16 ≡ w / 16 / 8 = omega arith in
    let fourth : w / 4 / 16 ≡ w / 16 / 4 = omega arith in
    let half : w / 2 / 16 ≡ w / 16 / 2 = omega arith in
    and_shr (w / 8) (bit_or (w / 4) (w / 2)) 4 ∙ ap (bit_and (w / 8 / 16)) (or_shr (w / 4) (w / 2) 4) ∙ rw (eighth, fourth, half)

more_flags : (k w : ℕ) → bit_and (above_nine w) (lowest_bits (suc k)) ≡ above_nine w % 2 + 16 * bit_and (above_nine (w / 16)) (lowest_bits k)
more_flags k w = pick_lowest (above_nine w) (lowest_bits k) ∙ ap (λ x. above_nine w % 2 + 16 * bit_and x (lowest_bits k)) (above_high w)

pub no_flags : (k w : ℕ) → bit_and (above_nine w) (lowest_bits k) ≡ 0 → AllDigits k w
no_flags zero w none = λ i h. omega arith
no_flags (suc k) w none =
    let sum = more_flags k w in
    digits_cons k w (low_digit w (omega (arith, sum))) (no_flags k (w / 16) (omega (arith, sum)))

pub flags_none : (k w : ℕ) → AllDigits k w → bit_and (above_nine w) (lowest_bits k) ≡ 0
flags_none zero w all = and_zero_r (above_nine w)
flags_none (suc k) w all =
    omega (arith, more_flags k w, digit_low w (digits_head k w all), flags_none k (w / 16) (digits_tail k w all))

pub tells_digits : (w : ℕ) → Decides (eqb (bit_and (above_nine w) (lowest_bits 16)) 0) (AllDigits 16 w)
tells_digits w = (λ e. no_flags 16 w (eqb-true _ 0 e), λ all. eq-eqb _ 0 (flags_none 16 w all))
