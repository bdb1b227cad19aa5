-- Sums and differences of words of digits, all digits at once.
use Rattle.std.proofs.Common.{◌≡◌, ℕ, zero, suc, ◌+◌, ◌-◌, ◌*◌, ◌/◌, ◌%◌, ◌^◌, ◌<◌, ◌≤◌, sym, ap, ◌∙◌, subst, mod-eq_of_lt, mul_assoc, mul_comm, pow-suc, arith}
use native.Mathlib.Nat.{div-div-eq-div-mul, add-mul-mod_self_right}
use lib.Bits.{bit_and, bit_xor, xor_shr, xor_add_and, and_zero_r}
use Rattle.packed.specs.Digits.{AllDigits, decimal}
use Rattle.packed.proofs.Decimals.{decimal_none}
use Rattle.packed.proofs.Lowest.{digits_cons, digits_head, digits_tail, decimal_cons, lowest_bits, pick_lowest}

-- the lowest bit without carries
xor_parity : (x y : ℕ) → bit_xor x y % 2 ≡ (x + y) % 2
xor_parity x y = omega (arith, xor_add_and x y)

-- where t is not the sum x + y without carries: the lowest bit of each of k fours of bits above the lowest four
unfoldable pub changed : ℕ → ℕ → ℕ → ℕ → ℕ
changed k x y t = bit_and (bit_xor (bit_xor x y) t / 16) (lowest_bits k)

-- by the lowest four bits: c is 1 where t is the sum x + y, or the difference x - y, but for a 1 carried into the next four
changed_more : (k x y t c : ℕ) → c < 2 → (x / 16 + y / 16 + t / 16) % 2 ≡ c → changed (suc k) x y t ≡ c + 16 * changed k (x / 16) (y / 16) (t / 16)
unfolding changed
changed_more k x y t c bit odd =
    let high : bit_xor (bit_xor x y) t / 16 ≡ bit_xor (bit_xor (x / 16) (y / 16)) (t / 16) =
    xor_shr (bit_xor x y) t 4 ∙ ap (λ z. bit_xor z (t / 16)) (xor_shr x y 4) in
    let parity : bit_xor (bit_xor (x / 16) (y / 16)) (t / 16) % 2 ≡ c =
    omega (arith, xor_parity (bit_xor (x / 16) (y / 16)) (t / 16), xor_parity (x / 16) (y / 16)) in
    pick_lowest (bit_xor (bit_xor x y) t / 16) (lowest_bits k) ∙ rw high (omega (arith, parity))

odd_one : (x y z c : ℕ) → c < 2 → x ≡ y + z + c → (x + y + z) % 2 ≡ c
odd_one x y z c bit sum =
    let twice : x + y + z ≡ c + (y + z) * 2 = omega arith in
    ap (λ n. n % 2) twice ∙ add-mul-mod_self_right c (y + z) 2 ∙ mod-eq_of_lt bit

-- The number of a word whose lowest k fours of bits are digits, with all that stands above them.
unfoldable pub whole : ℕ → ℕ → ℕ
whole k w = decimal k w + w / 16 ^ k * 10 ^ k

pub whole_none : (w : ℕ) → whole 0 w ≡ w
unfolding whole
whole_none w = omega (arith, decimal_none w)

above : (k w : ℕ) → w / 16 ^ suc k ≡ w / 16 / 16 ^ k
above k w = ap (λ p. w / p) (pow-suc 16 k ∙ mul_comm (16 ^ k) 16) ∙ sym (div-div-eq-div-mul w 16 (16 ^ k))

pub whole_cons : (k w : ℕ) → whole (suc k) w ≡ w % 16 + 10 * whole k (w / 16)
unfolding whole
whole_cons k w =
    let high : w / 16 ^ suc k * 10 ^ suc k ≡ w / 16 / 16 ^ k * 10 ^ k * 10 =
    ap (λ x. x * 10 ^ suc k) (above k w) ∙ ap (λ p. w / 16 / 16 ^ k * p) (pow-suc 10 k) ∙ sym (mul_assoc (w / 16 / 16 ^ k) (10 ^ k) 10) in
    omega (arith, decimal_cons k w, high)

-- sixteen digits are fifteen and one above them
pub whole_sixteen : (w : ℕ) → w < 2 ^ 64 → whole 15 w ≡ decimal 16 w
unfolding whole decimal
whole_sixteen w small = ap (λ d. decimal 15 w + d * 10 ^ 15) (sym (mod-eq_of_lt {n = w / 16 ^ 15} {m = 16} (omega arith)))

-- s is the sum of a, b and c by digits, t the sum of the words with 6 more in each digit
pub record Added (k a b c s t : ℕ) : Type 0 where
  pub digits : AllDigits k s
  pub value : whole k s ≡ whole k a + whole k b + c
  pub top : s / 16 ^ k ≡ t / 16 ^ k

pub added : (k a b c : ℕ) → AllDigits k a → AllDigits k b → c < 2 → Added k a b c (a + b + c + 6 * changed k (a + 6 * lowest_bits k) b (a + 6 * lowest_bits k + b + c)) (a + 6 * lowest_bits k + b + c)
unfolding changed
added zero a b c da db bit =
    let none : bit_and (bit_xor (bit_xor (a + 6 * lowest_bits zero) b) (a + 6 * lowest_bits zero + b + c) / 16) 0 ≡ 0 = and_zero_r _ in
    let plain : a + b + c + 6 * bit_and (bit_xor (bit_xor (a + 6 * lowest_bits zero) b) (a + 6 * lowest_bits zero + b + c) / 16) 0 ≡ a + b + c = omega (arith, none) in
    record {
      digits = λ i h. omega arith;
      value = omega (arith, ap (whole zero) plain, whole_none (a + b + c), whole_none a, whole_none b);
      top = rw plain (ap (λ x. x / 16 ^ zero) (omega arith));
    }
added (suc k) a b c da db bit =
    let L : ℕ = lowest_bits k in
    let a0 = digits_head k a da in
    let b0 = digits_head k b db in
    -- the carry into the digits above the lowest
    let c' : ℕ = (a % 16 + b % 16 + c + 6) / 16 in
    let x : ℕ = a + 6 * (1 + 16 * L) in
    let t : ℕ = x + b + c in
    let x' : x / 16 ≡ a / 16 + 6 * L = omega arith in
    let t' : t / 16 ≡ a / 16 + 6 * L + b / 16 + c' = omega arith in
    let below = added k (a / 16) (b / 16) c' (digits_tail k a da) (digits_tail k b db) (omega arith) in
    let C : ℕ = changed k (a / 16 + 6 * L) (b / 16) (a / 16 + 6 * L + b / 16 + c') in
    let more : changed (suc k) x b t ≡ c' + 16 * C =
    changed_more k x b t c' (omega arith) (omega arith) ∙ ap (λ z. c' + 16 * changed k z (b / 16) (t / 16)) x' ∙ ap (λ z. c' + 16 * changed k (a / 16 + 6 * L) (b / 16) z) t' in
    let s' : ℕ = a / 16 + b / 16 + c' + 6 * C in
    let s : ℕ = a + b + c + 6 * changed (suc k) x b t in
    let high : s / 16 ≡ s' = omega (arith, more) in
    let low : s % 16 + 10 * c' ≡ a % 16 + b % 16 + c = omega (arith, more) in
    let digit : s % 16 ≤ 9 = omega (arith, low) in
    record {
      digits = digits_cons k s digit (subst (AllDigits k) (sym high) below.digits);
      value = omega (arith, whole_cons k s, whole_cons k a, whole_cons k b, ap (whole k) high, below.value, low);
      top = above k s ∙ ap (λ z. z / 16 ^ k) high ∙ below.top ∙ sym (ap (λ z. z / 16 ^ k) t') ∙ sym (above k t);
    }

-- s is the difference of a and b less c by digits, t the difference of the words
pub record Subtracted (k a b c s t taken : ℕ) : Type 0 where
  pub fits : 6 * taken + s ≡ t
  pub digits : AllDigits k s
  pub value : whole k s + whole k b + c ≡ whole k a

pub subtracted : (k a b c : ℕ) → AllDigits k a → AllDigits k b → c < 2 → b + c ≤ a → Subtracted k a b c (a - (b + c) - 6 * changed k a b (a - (b + c))) (a - (b + c)) (changed k a b (a - (b + c)))
unfolding changed
subtracted zero a b c da db bit fits =
    let none : bit_and (bit_xor (bit_xor a b) (a - (b + c)) / 16) 0 ≡ 0 = and_zero_r _ in
    record {
      fits = omega (arith, none);
      digits = λ i h. omega arith;
      value = omega (arith, none, whole_none (a - (b + c) - 6 * bit_and (bit_xor (bit_xor a b) (a - (b + c)) / 16) 0), whole_none a, whole_none b);
    }
subtracted (suc k) a b c da db bit fits =
    let a0 = digits_head k a da in
    let b0 = digits_head k b db in
    -- what the lowest digit borrows from those above it
    let c' : ℕ = 1 - (a % 16 + 16 - (b % 16 + c)) / 16 in
    let t : ℕ = a - (b + c) in
    let room : b / 16 + c' ≤ a / 16 = omega arith in
    let t' : t / 16 ≡ a / 16 - (b / 16 + c') = omega arith in
    let below = subtracted k (a / 16) (b / 16) c' (digits_tail k a da) (digits_tail k b db) (omega arith) room in
    let C : ℕ = changed k (a / 16) (b / 16) (a / 16 - (b / 16 + c')) in
    let more : changed (suc k) a b t ≡ c' + 16 * C =
    changed_more k a b t c' (omega arith) (odd_one (a / 16) (b / 16) (t / 16) c' (omega arith) (omega arith)) ∙ ap (λ z. c' + 16 * changed k (a / 16) (b / 16) z) t' in
    let s' : ℕ = a / 16 - (b / 16 + c') - 6 * C in
    let s : ℕ = t - 6 * changed (suc k) a b t in
    let low_word : t % 16 + b % 16 + c ≡ a % 16 + 16 * c' = omega arith in
    let parts : 6 * changed (suc k) a b t + (16 * s' + (t % 16 - 6 * c')) ≡ t = omega (arith, more, below.fits) in
    let high : s / 16 ≡ s' = omega (arith, parts) in
    let low : s % 16 + b % 16 + c ≡ a % 16 + 10 * c' = omega (arith, parts) in
    let digit : s % 16 ≤ 9 = omega (arith, low) in
    record {
      fits = omega (arith, parts);
      digits = digits_cons k s digit (subst (AllDigits k) (sym high) below.digits);
      value = omega (arith, whole_cons k s, whole_cons k a, whole_cons k b, ap (whole k) high, below.value, low);
    }
