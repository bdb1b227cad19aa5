-- Which package a fraction is written as, case by case.
use Rattle.std.proofs.Common.{◌≡◌, ℕ, ◌%◌, ◌<◌, ◌≤◌, cond, eqb, refl, ap, ◌∙◌, arith}
use Rattle.std.proofs.lemmas.Bool.{eq-eqb, ne_eqb, cond-true, cond-false}
use Rattle.generic.specs.declared.sign.Sign.{Sign}
use Rattle.division.specs.Expansion.{coming}
use Rattle.fraction.specs.Meaning.{Meaning, rational, infinity, nan}
use Rattle.numeric.specs.Cut.{scale_of}
use Rattle.numeric.specs.Package.{bare, plus_word, nan_word, infinity_word, cut_package, precision_in_force, written}
use Rattle.numeric.proofs.Held.{coming_again}
use Rattle.numeric_write.proofs.Measuring.{scale_within}

-- a precision in force stays itself
pub in_force_itself : (p : ℕ) → 0 < p → p ≤ 16383 → precision_in_force p ≡ p
in_force_itself p some most = omega arith

pub written_zero : (sign : Sign) (n d p : ℕ) → n ≡ 0 → written (rational sign n d) p ≡ bare plus_word
unfolding written
written_zero sign n d p z = cond-true (eqb n 0) (bare plus_word) (cut_package sign n d (scale_of n d (precision_in_force p))) (eq-eqb n 0 z)

pub written_some : (sign : Sign) (n d p : ℕ) → 0 < p → p ≤ 16383 → (n ≡ 0 → ⊥) → written (rational sign n d) p ≡ cut_package sign n d (scale_of n d p)
unfolding written
written_some sign n d p some most nz =
    cond-false (eqb n 0) (bare plus_word) (cut_package sign n d (scale_of n d (precision_in_force p))) (ne_eqb n 0 nz)
    ∙ ap (λ q. cut_package sign n d (scale_of n d q)) (in_force_itself p some most)

pub written_infinity : (sign : Sign) (p : ℕ) → written (infinity sign) p ≡ bare (infinity_word sign)
unfolding written
written_infinity sign p = refl

pub written_nan : (p : ℕ) → written nan p ≡ bare nan_word
unfolding written
written_nan p = refl

-- what is written at a precision is what is written at the precision in force
pub written_in_force : (m : Meaning) (p : ℕ) → written m (precision_in_force p) ≡ written m p
unfolding written
written_in_force (rational sign n d) p =
    ap (λ q. cond (eqb n 0) (bare plus_word) (cut_package sign n d (scale_of n d q))) (in_force_itself (precision_in_force p) (omega arith) (omega arith))
written_in_force (infinity sign) p = refl
written_in_force nan p = refl

pub scale_bound : (n d p : ℕ) → scale_of n d p ≤ p
unfolding scale_of
scale_bound n d p = scale_within d (n % d) p

pub scale_again : (n d p : ℕ) → coming d (n % d) (scale_of n d p) ≡ scale_of n d p
unfolding scale_of
scale_again n d p = coming_again d (n % d) p
