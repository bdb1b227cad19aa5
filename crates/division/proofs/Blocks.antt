-- Several digits from one division: those of its quotient.
use Rattle.std.proofs.Common.{◌≡◌, ℕ, zero, suc, ◌+◌, ◌*◌, ◌/◌, ◌%◌, ◌^◌, ◌<◌, ◌≤◌, min, ◌∷◌, sym, refl, ap, ◌∙◌, mod-lt, mod-eq_of_lt, mul_assoc, mul_comm, div-add-mod', mul-one, mul-add, mul_left_comm, arith}
use native.Mathlib.Nat.{mul-lt-mul_of_pos_left, mul-div-mul_left, div-div-eq-div-mul, pow-succ'}
use lib.Arith.{digits_div, digits_mod, mod-mul}
use Rattle.division.specs.Digits.{fed}
use Rattle.division.specs.Expansion.{digits, rest, Went}
use Rattle.division.specs.Tally.{Tally, Took}
use Rattle.division.proofs.Runs.{length_digits}

-- A power of ten is not 0.
pub ten_pos : (p : ℕ) → 0 < 10 ^ p
ten_pos zero = omega arith
ten_pos (suc p) = rw (pow-succ' 10 p) (omega (arith, ten_pos p))

module _ (d : ℕ) (pd : 0 < d) where
  -- The digit of the place p of m over d is that of the quotient, and what it leaves has the quotient and the remainder left.
  pub digit_over : (m p : ℕ) → m / (10 ^ p * d) ≡ m / d / (10 ^ p * 1)
  digit_over m p = ap (λ z. m / z) (mul_comm (10 ^ p) d) ∙ sym (div-div-eq-div-mul m d (10 ^ p)) ∙ ap (λ z. m / d / z) (sym (mul-one (10 ^ p)))

  pub quotient_left : (m p : ℕ) → m % (10 ^ p * d) / d ≡ m / d % (10 ^ p * 1)
  quotient_left m p =
      ap (λ z. z / d) (mod-mul m (ten_pos p) pd) ∙ digits_div (m / d % 10 ^ p) (mod-lt m pd) ∙ ap (λ z. m / d % z) (sym (mul-one (10 ^ p)))

  pub remainder_left : (m p : ℕ) → m % (10 ^ p * d) % d ≡ m % d
  remainder_left m p = ap (λ z. z % d) (mod-mul m (ten_pos p) pd) ∙ digits_mod (m / d % 10 ^ p) (mod-lt m pd)

  unit_pos : (p : ℕ) → 0 < 10 ^ p * d
  unit_pos p = omega (arith, mul-lt-mul_of_pos_left pd (ten_pos p))

  -- The digits of a whole part are those of the quotient, and what they leave is the remainder.
  pub whole_digits : (m p : ℕ) → digits d m p p ≡ digits 1 (m / d) p p
  whole_digits m zero = refl
  whole_digits m (suc p) =
      ap (λ z. z ∷ digits d (m % (10 ^ p * d)) p p) (digit_over m p)
      ∙ ap (λ ds. m / d / (10 ^ p * 1) ∷ ds) (whole_digits (m % (10 ^ p * d)) p ∙ ap (λ z. digits 1 z p p) (quotient_left m p))

  pub whole_rest : (m p : ℕ) → m < 10 ^ p * d → rest d m p p ≡ m % d
  whole_rest m zero below = sym (mod-eq_of_lt (omega arith))
  whole_rest m (suc p) below = whole_rest (m % (10 ^ p * d)) p (mod-lt m (unit_pos p)) ∙ remainder_left m p

  -- All digits of a whole part go into a sink.
  pub went_whole : (step : ℕ → ℕ → ℕ) (m p q m' : ℕ) (a b : Tally) → m < 10 ^ p * d → p ≤ a.left → q ≡ m / d → m' ≡ m % d
      → Took step a (digits 1 q p p) b → Went step d m p (min a.left p) a b m' 0
  went_whole step m p q m' a b below some eq em takes =
      let all : min a.left p ≡ p = omega arith in
      let long = length_digits 1 q p p in
      rw all
      (record {
        taken = omega (arith, takes.taken);
        left = omega (arith, takes.left);
        held = takes.held ∙ ap (λ z. fed step a.held (digits 1 z p p)) eq ∙ ap (fed step a.held) (sym (whole_digits m p));
        state = em ∙ sym (whole_rest m p below);
        place = omega arith;
      })

  -- The next k digits of a fraction are those of the whole part of 10^k times it.
  tenfold : (r k : ℕ) → 10 ^ suc k * r ≡ 10 ^ k * (10 * r)
  tenfold r k = ap (λ z. z * r) (pow-succ' 10 k) ∙ mul_assoc 10 (10 ^ k) r ∙ mul_left_comm 10 (10 ^ k) r

  digit_up : (r k : ℕ) → 10 * r / d ≡ 10 ^ suc k * r / (10 ^ k * d)
  digit_up r k = sym (ap (λ z. z / (10 ^ k * d)) (tenfold r k) ∙ mul-div-mul_left (10 * r) d (ten_pos k))

  rest_up : (r k : ℕ) → 10 ^ k * (10 * r % d) ≡ 10 ^ suc k * r % (10 ^ k * d)
  rest_up r k =
      let x = 10 * r in
      let parts : 10 ^ k * x ≡ x / d * (10 ^ k * d) + 10 ^ k * (x % d) =
      ap (λ z. 10 ^ k * z) (sym (div-add-mod' x d)) ∙ mul-add (10 ^ k) (x / d * d) (x % d) ∙ ap (λ z. z + 10 ^ k * (x % d)) (mul_left_comm (10 ^ k) (x / d) d) in
      sym (ap (λ z. z % (10 ^ k * d)) (tenfold r k ∙ parts) ∙ digits_mod (x / d) (mul-lt-mul_of_pos_left (mod-lt x pd) (ten_pos k)))

  digits_up : (r k : ℕ) → digits d r 0 k ≡ digits d (10 ^ k * r) k k
  digits_up r zero = refl
  digits_up r (suc k) =
      ap (λ z. z ∷ digits d (10 * r % d) 0 k) (digit_up r k)
      ∙ ap (λ ds. 10 ^ suc k * r / (10 ^ k * d) ∷ ds) (digits_up (10 * r % d) k ∙ ap (λ z. digits d z k k) (rest_up r k))

  rests_up : (r k : ℕ) → rest d r 0 k ≡ rest d (10 ^ k * r) k k
  rests_up r zero = omega arith
  rests_up r (suc k) = rests_up (10 * r % d) k ∙ ap (λ z. rest d z k k) (rest_up r k)

  -- So they and what they leave come from one division.
  pub block_digits : (r k : ℕ) → digits d r 0 k ≡ digits 1 (10 ^ k * r / d) k k
  block_digits r k = digits_up r k ∙ whole_digits (10 ^ k * r) k

  pub block_rest : (r k : ℕ) → r < d → rest d r 0 k ≡ 10 ^ k * r % d
  block_rest r k below = rests_up r k ∙ whole_rest (10 ^ k * r) k (mul-lt-mul_of_pos_left below (ten_pos k))

-- Four digits go into a sink.
pub went_four : (step : ℕ → ℕ → ℕ) (d r q r' : ℕ) (a b : Tally) → r < d → q ≡ 10000 * r / d → r' ≡ 10000 * r % d
    → Took step a (digits 1 q 4 4) b → Went step d r 0 4 a b r' 0
went_four step d r q r' a b below eq er takes =
    let some : 0 < d = omega arith in
    record {
      taken = takes.taken;
      left = takes.left;
      held = takes.held ∙ ap (λ z. fed step a.held (digits 1 z 4 4)) eq ∙ ap (fed step a.held) (sym (block_digits d some r 4));
      state = er ∙ sym (block_rest d some r 4 below);
      place = refl;
    }
