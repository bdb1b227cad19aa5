-- A word of digits by its low and its high digits.
use Rattle.std.proofs.Common.{◌≡◌, ℕ, zero, suc, ◌+◌, ◌-◌, ◌*◌, ◌/◌, ◌%◌, ◌^◌, ◌<◌, ◌≤◌, sym, ap, ◌∙◌, subst, inl, inr, add-zero, add-suc, mul_assoc, add-mul, arith}
use Rattle.std.proofs.lemmas.Nat.{pow-add, shr-shr, div-mul-add, mul-le}
use Rattle.std.proofs.lemmas.Bool.{cases_lt}
use Rattle.packed.specs.Digits.{nibble, decimal, Writes}
use Rattle.packed.proofs.Decimals.{decimal_same, nibble_low}

-- a place above place j is a place of what stands above j
pub nibble_high : (j w i : ℕ) → nibble (w / 2 ^ (4 * j)) i ≡ nibble w (j + i)
nibble_high j w i = ap (λ x. x % 16) (shr-shr w (4 * j) (4 * i) ∙ ap (λ e. w / 2 ^ e) (omega arith))

-- the high digits count 10 ^ j times as much
pub decimal_split : (j k w : ℕ) → decimal (j + k) w ≡ decimal j w + decimal k (w / 2 ^ (4 * j)) * 10 ^ j
unfolding decimal
decimal_split j zero w = ap (λ n. decimal n w) (add-zero j) ∙ omega arith
decimal_split j (suc k) w =
    let head : decimal (j + suc k) w ≡ decimal (j + k) w + nibble w (j + k) * 10 ^ (j + k) = ap (λ n. decimal n w) (add-suc j k) in
    let low = decimal_split j k w in
    let high : nibble (w / 2 ^ (4 * j)) k * 10 ^ k * 10 ^ j ≡ nibble w (j + k) * 10 ^ (j + k) =
    ap (λ d. d * 10 ^ k * 10 ^ j) (nibble_high j w k) ∙ mul_assoc (nibble w (j + k)) (10 ^ k) (10 ^ j) ∙ ap (λ p. nibble w (j + k) * p) (sym (pow-add 10 k j) ∙ ap (λ e. 10 ^ e) (omega arith)) in
    head ∙ omega (arith, low, high, add-mul (decimal k (w / 2 ^ (4 * j))) (nibble (w / 2 ^ (4 * j)) k * 10 ^ k) (10 ^ j))

-- a word of k digits above a word of j digits
pub writes_halves : (j k low high m n : ℕ) → Writes j low m → Writes k high n → Writes (j + k) (high * 2 ^ (4 * j) + low) (n * 10 ^ j + m)
writes_halves j k low high m n lows highs =
    let B : ℕ = 2 ^ (4 * j) in
    let w : ℕ = high * B + low in
    let turned : w ≡ low + high * B = omega arith in
    let shifted : w / B ≡ high = div-mul-add high B low lows.below in
    let low_place : (i : ℕ) → i < j → nibble w i ≡ nibble low i =
    λ i h. ap (λ x. nibble x i) turned ∙ nibble_low j low high i h in
    let power : 2 ^ (4 * (j + k)) ≡ B * 2 ^ (4 * k) = ap (λ e. 2 ^ e) (omega arith) ∙ pow-add 2 (4 * j) (4 * k) in
    record {
      digits = λ i h.
          elim (cases_lt i j) [
            | inl below ↦ rw (low_place i below) (lows.digits i below)
            | inr above ↦
                let place : nibble w i ≡ nibble high (i - j) =
                ap (λ x. nibble w x) (omega arith) ∙ sym (nibble_high j w (i - j)) ∙ ap (λ x. nibble x (i - j)) shifted in
                rw place (highs.digits (i - j) (omega arith))
          ];
      below =
          let most : high * B + B ≤ 2 ^ (4 * k) * B = omega (arith, mul-le (high + 1) B (2 ^ (4 * k)) B (omega (arith, highs.below)) (omega arith), add-mul high 1 B) in
          omega (arith, power, most, lows.below);
      value =
          decimal_split j k w ∙ omega (arith, decimal_same j w low low_place, lows.value, ap (λ x. decimal k x * 10 ^ j) shifted, ap (λ x. x * 10 ^ j) highs.value);
    }

pub writes_as : {k v w m n : ℕ} → Writes k v m → v ≡ w → m ≡ n → Writes k w n
writes_as {k} {v} {w} {m} {n} h e f = subst (λ x. Writes k x n) e (subst (λ x. Writes k v x) f h)

-- one digit
pub writes_one : (d : ℕ) → d ≤ 9 → Writes 1 d d
unfolding decimal
writes_one d h = record { digits = λ i below. let first : i ≡ 0 = omega arith in rw first (omega arith); below = omega arith; value = omega arith }

-- two digits: tens above units
pub writes_two : (n : ℕ) → n < 100 → Writes 2 (n + 6 * (n / 10)) n
writes_two n h =
    writes_as (writes_halves 1 1 (n % 10) (n / 10) (n % 10) (n / 10) (writes_one (n % 10) (omega arith)) (writes_one (n / 10) (omega arith))) (omega arith) (omega arith)
