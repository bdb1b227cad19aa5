-- The scale is the length of the division's expansion, up to the precision; a cut fraction keeps its whole part.
use Rattle.std.proofs.Common.{◌≡◌, ℕ, zero, suc, ◌+◌, ◌*◌, ◌/◌, ◌%◌, ◌^◌, ◌<◌, sym, ap, ◌∙◌, ⊎_elim, mul_assoc, div-add-mod', mul-one, arith}
use native.Mathlib.Nat.{pow-succ', mul-add-mod_self_right, div-div-eq-div-mul, mul-div-mul_right, one-le-pow}
use Rattle.std.proofs.lemmas.Bool.{cases_order, cases_lt}
use Rattle.division.specs.Expansion.{rest, coming}
use Rattle.division.proofs.Decimals.{lesser}
use Rattle.numeric.specs.Cut.{cut, scale_of, Scale}

ten_times : (m d : ℕ) → 10 * (m % d) % d ≡ m * 10 % d
ten_times m d =
    let a : 10 * (m / d) * d + 10 * (m % d) ≡ m * 10 = omega (arith, mul_assoc 10 (m / d) d, div-add-mod' m d) in
    sym (ap (λ x. x % d) (sym a) ∙ mul-add-mod_self_right (10 * (m / d)) d (10 * (m % d)))

-- the remainder of the division after i fractional digits
pub rest_is : (d m i : ℕ) → rest d (m % d) 0 i ≡ m * 10 ^ i % d
rest_is d m zero = sym (ap (λ x. x % d) (mul-one m))
rest_is d m (suc i) =
    ap (λ x. rest d x 0 i) (ten_times m d)
    ∙ rest_is d (m * 10) i
    ∙ ap (λ x. x % d) (mul_assoc m 10 (10 ^ i) ∙ ap (λ x. m * x) (sym (pow-succ' 10 i)))

pub scale_is : (n d p : ℕ) → Scale n d p (scale_of n d p)
unfolding scale_of
scale_is n d p =
    let l = lesser d (n % d) p in
    record {
      within = l.0;
      goes_on = λ t lt e. omega (arith, l.1 t lt, rest_is d n t);
      stops = λ lt. sym (rest_is d n (coming d (n % d) p)) ∙ l.2 lt;
    }

pub scale_unique : (n d p s t : ℕ) → Scale n d p s → Scale n d p t → s ≡ t
scale_unique n d p s t a b = ⊎_elim
    (λ e. e)
    (λ o. ⊎_elim
    (λ lt. absurd (b.goes_on s lt (a.stops (omega (arith, b.within)))))
    (λ lt. absurd (a.goes_on t lt (b.stops (omega (arith, a.within)))))
    o)
    (cases_order s t)

-- a cut fraction keeps its whole part
pub cut_whole : (n d s : ℕ) → cut n d s / 10 ^ s ≡ n / d
cut_whole n d s = div-div-eq-div-mul (n * 10 ^ s) d (10 ^ s) ∙ mul-div-mul_right n d (one-le-pow s 10 (omega arith))

-- the scale is 0 exactly where the fraction is a whole number
pub whole_scale : (n d p : ℕ) → n % d ≡ 0 → scale_of n d p ≡ 0
whole_scale n d p z = ⊎_elim
    (λ lt. absurd ((scale_is n d p).goes_on 0 lt (ap (λ x. x % d) (mul-one n) ∙ z)))
    (λ le. omega arith)
    (cases_lt 0 (scale_of n d p))

pub scale_whole : (n d p : ℕ) → 0 < p → scale_of n d p ≡ 0 → n % d ≡ 0
scale_whole n d p h z =
    sym (ap (λ x. x % d) (ap (λ x. n * 10 ^ x) z ∙ mul-one n)) ∙ (scale_is n d p).stops (omega arith)
