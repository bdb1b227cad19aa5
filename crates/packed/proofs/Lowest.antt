-- A word of digits by its lowest digit and the digits above it.
use Rattle.std.proofs.Common.{◌≡◌, ℕ, zero, suc, ◌+◌, ◌*◌, ◌/◌, ◌%◌, ◌^◌, ◌≤◌, sym, ap, ◌∙◌, arith}
use lib.Bits.{bit_and, and_block, and_mask}
use Rattle.packed.specs.Digits.{nibble, AllDigits, decimal}
use Rattle.packed.proofs.Halves.{nibble_high, decimal_split}

pub digits_cons : (k w : ℕ) → w % 16 ≤ 9 → AllDigits k (w / 16) → AllDigits (suc k) w
digits_cons k w low high zero h = omega arith
digits_cons k w low high (suc i) h =
    let place : nibble (w / 16) i ≡ nibble w (suc i) = nibble_high 1 w i ∙ ap (nibble w) (omega arith) in
    rw (sym place) (high i (omega arith))

pub digits_head : (k w : ℕ) → AllDigits (suc k) w → w % 16 ≤ 9
digits_head k w all = omega (arith, all 0 (omega arith))

pub digits_tail : (k w : ℕ) → AllDigits (suc k) w → AllDigits k (w / 16)
digits_tail k w all i h =
    let place : nibble (w / 16) i ≡ nibble w (suc i) = nibble_high 1 w i ∙ ap (nibble w) (omega arith) in
    rw place (all (suc i) (omega arith))

pub decimal_one : (w : ℕ) → decimal 1 w ≡ w % 16
unfolding decimal
decimal_one w = omega arith

pub decimal_cons : (k w : ℕ) → decimal (suc k) w ≡ w % 16 + 10 * decimal k (w / 16)
decimal_cons k w =
    let split : decimal (suc k) w ≡ decimal 1 w + decimal k (w / 16) * 10 = ap (λ n. decimal n w) (omega arith) ∙ decimal_split 1 k w in
    omega (arith, split, decimal_one w)

-- The lowest bit of each of k fours of bits.
abbrev pub lowest_bits : ℕ → ℕ
lowest_bits zero = 0
lowest_bits (suc k) = 1 + 16 * lowest_bits k

pub pick_lowest : (x m : ℕ) → bit_and x (1 + 16 * m) ≡ x % 2 + 16 * bit_and (x / 16) m
pick_lowest x m =
    let parts : x ≡ x / 16 * 2 ^ 4 + x % 16 = omega arith in
    let mask : 1 + 16 * m ≡ m * 2 ^ 4 + 1 = omega arith in
    let blocks : bit_and (x / 16 * 2 ^ 4 + x % 16) (m * 2 ^ 4 + 1) ≡ bit_and (x / 16) m * 2 ^ 4 + bit_and (x % 16) 1 =
    and_block 4 (x / 16) m (x % 16) 1 (omega arith) (omega arith) in
    let bit : bit_and (x % 16) 1 ≡ x % 16 % 2 = and_mask (x % 16) 1 in
    ap (λ y. bit_and y (1 + 16 * m)) parts ∙ ap (bit_and (x / 16 * 2 ^ 4 + x % 16)) mask ∙ blocks ∙ omega (arith, bit)
