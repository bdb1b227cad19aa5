-- Places of the whole part.
use Rattle.std.proofs.Common.{◌≡◌, ℕ, zero, suc, ◌-◌, ◌*◌, ◌/◌, ◌^◌, ◌<◌, ◌≤◌, sym, ap, ◌∙◌, inl, inr, mul_assoc, div-lt_iff_lt-mul, mul-le-mul_left, mul-one, arith, lit<}
use native.Mathlib.Nat.{pow-succ', pow-le-pow_right}
use Rattle.std.proofs.lemmas.Bool.{cases_lt}
use Rattle.division.specs.Sound.{Sound}
use Rattle.division.specs.Whole.{Width}

-- ten times the unit of a place is the unit of the next
pub unit_up : (p d : ℕ) → 0 < p → 10 * (10 ^ (p - 1) * d) ≡ 10 ^ p * d
unit_up zero d h = absurd (omega arith)
unit_up (suc p) d h =
    let e : suc p - 1 ≡ p = omega arith in
    rw e (sym (mul_assoc 10 (10 ^ p) d) ∙ ap (λ z. z * d) (sym (pow-succ' 10 p)))

-- a place whose unit is below 2^64
pub few_places : (p u d : ℕ) → u ≡ 10 ^ (p - 1) * d → 0 < d → u < 2 ^ 64 → p ≤ 20
few_places p u d e pos small =
    elim (cases_lt p 21) [
      | inl lt ↦ omega arith
      | inr ge ↦
          let far : 20 ≤ p - 1 = omega arith in
          let big : 10 ^ 20 ≤ 10 ^ (p - 1) = pow-le-pow_right (lit< tt) far in
          let more : 10 ^ (p - 1) * 1 ≤ 10 ^ (p - 1) * d = mul-le-mul_left (10 ^ (p - 1)) pos in
          absurd (omega (arith, mul-one (10 ^ (p - 1))))
    ]

-- a state as it begins
pub begun_width : (n d u p : ℕ) → 0 < p → u ≡ 10 ^ (p - 1) * d → n < 10 * u → (1 < p → u ≤ n) → Width n d p
begun_width n d u p some eu below no_zero =
    record {
      some = some;
      enough = rw (sym (unit_up p d some), sym eu) below;
      no_zero = λ h. rw (sym eu) (no_zero h);
    }

-- a digit of the whole part
pub digit_small : (m d u p most : ℕ) → Sound m d u p most → m / u < 10
digit_small m d u p most s =
    let up = unit_up p d s.place in
    let below : m < 10 * u = omega (arith, s.unit, s.rest) in
    (div-lt_iff_lt-mul {k = u} {x = m} {y = 10} (omega arith)).1 below

-- the unit of the place below
pub sound_down : (m d u p most m' u' : ℕ) → Sound m d u p most → ¬ (p ≡ 1) → m' < u → u' ≡ u / 10 → Sound m' d u' (p - 1) most
sound_down m d u p most m' u' s more below eu' =
    let some : 1 < p = omega (arith, s.place) in
    let up : 10 * (10 ^ (p - 1 - 1) * d) ≡ 10 ^ (p - 1) * d = unit_up (p - 1) d (omega arith) in
    record {
      divisor = s.divisor;
      place = omega arith;
      unit = omega (arith, s.unit);
      fits = omega (arith, s.fits);
      rest = omega (arith, s.unit);
    }
