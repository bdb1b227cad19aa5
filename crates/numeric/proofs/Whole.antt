-- The groups of a whole part, by the digits that the division counts in it.
use Rattle.std.proofs.Common.{◌≡◌, ℕ, suc, ◌-◌, ◌*◌, ◌/◌, ◌^◌, ◌<◌, ◌≤◌, sym, ◌∙◌, subst, ⊎_elim, div-lt_iff_lt-mul, le-div_iff_mul-le, arith}
use native.Mathlib.Nat.{pow-le-pow_right}
use Rattle.std.proofs.lemmas.Bool.{cases_lt}
use Rattle.division.specs.Whole.{Width}
use Rattle.numeric.specs.Package.{width, fours}
use Rattle.numeric.proofs.Least.{width_above, width_le}
use Rattle.numeric.proofs.Numbers.{pow_fours}

pub width_is : (b n g : ℕ) → 2 ≤ b → b ^ g ≤ n → n < b ^ suc g → width b n ≡ suc g
width_is b n g two low high = ⊎_elim
    (λ lt. omega (arith, width_le b n (suc g) high))
    (λ le.
    let small : b ^ width b n ≤ b ^ g = pow-le-pow_right (omega arith) le in
    absurd (omega (arith, width_above b n two)))
    (cases_lt g (width b n))

-- a number of w digits has as many groups as hold w digits
pub width_fours : (x w : ℕ) → 0 < w → 10 ^ (w - 1) ≤ x → x < 10 ^ w → width 10000 x ≡ fours w
width_fours x w h first above =
    let g : ℕ = fours w - 1 in
    let some : suc g ≡ fours w = omega arith in
    let low : 10 ^ (4 * g) ≤ 10 ^ (w - 1) = pow-le-pow_right (omega arith) (omega arith) in
    let high : 10 ^ w ≤ 10 ^ (4 * suc g) = pow-le-pow_right (omega arith) (omega arith) in
    width_is 10000 x g (omega arith) (omega (arith, pow_fours g)) (omega (arith, pow_fours (suc g))) ∙ some

-- and so a whole part that is not 0
pub whole_fours : (n d w : ℕ) → 0 < d → (n / d ≡ 0 → ⊥) → Width n d w → width 10000 (n / d) ≡ fours w
whole_fours n d w h nz is =
    let W : ℕ = n / d in
    let first : 10 ^ (w - 1) ≤ W = ⊎_elim
    (λ lt. (le-div_iff_mul-le h).1 (is.no_zero lt))
    (λ le. let e : w - 1 ≡ 0 = omega arith in subst (λ x. 10 ^ x ≤ W) (sym e) (omega (arith, nz)))
    (cases_lt 1 w) in
    width_fours W w is.some first ((div-lt_iff_lt-mul h).1 is.enough)
