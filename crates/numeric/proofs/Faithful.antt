-- Every written package is faithful.
use Rattle.std.proofs.Common.{◌≡◌, ℕ, zero, suc, ◌+◌, ◌-◌, ◌*◌, ◌/◌, ◌%◌, ◌^◌, ◌<◌, eqb, List, [], ◌∷◌, ◌++◌, length, take, drop, sym, refl, ap, ◌∙◌, subst, mod-lt, mul-pos, zero-mul, arith}
use native.Mathlib.Nat.{zero-mod, zero-div, one-le-pow}
use Rattle.std.specs.Int.Digits.{AllBelowBase}
use Rattle.std.specs.List.{prefix_len, suffix_len}
use Rattle.std.proofs.lemmas.Bool.{cond_both, eqb-true, eqb-false}
use Rattle.generic.specs.declared.sign.Sign.{Sign}
use Rattle.numeric.specs.Cut.{cut, scale_of}
use Rattle.numeric.specs.Package.{Package, amount, precision_in_force, written, package_of, cut_package, sign_word, plus_word, bare, digits_in, groups_of, all_groups, whole_groups, fours, filled, is_zero}
use Rattle.numeric.specs.Faithful.{Faithful, WritingFaithful}
use Rattle.numeric.proofs.Cut.{scale_is}
use Rattle.numeric.proofs.Amount.{exact, not_above, less_than_a_unit, some_unit, by_cases}

pub under_append : (b : ℕ) (xs ys : List ℕ) → AllBelowBase b xs → AllBelowBase b ys → AllBelowBase b (xs ++ ys)
under_append b [] ys p q = q
under_append b (x ∷ xs) ys p q = (p.0, under_append b xs ys p.1 q)

pub under_digits_in : (b k n : ℕ) → 0 < b → AllBelowBase b (digits_in b k n)
under_digits_in b zero n h = tt
under_digits_in b (suc k) n h = under_append b (digits_in b k (n / b)) (n % b ∷ []) (under_digits_in b k (n / b) h) (mod-lt n h, tt)

pub under_drop : (b k : ℕ) (xs : List ℕ) → AllBelowBase b xs → AllBelowBase b (drop k xs)
under_drop b zero xs u = u
under_drop b (suc k) [] u = tt
under_drop b (suc k) (x ∷ xs) u = under_drop b k xs u.1

under_take : (b k : ℕ) (xs : List ℕ) → AllBelowBase b xs → AllBelowBase b (take k xs)
under_take b zero xs u = tt
under_take b (suc k) [] u = tt
under_take b (suc k) (x ∷ xs) u = (u.0, under_take b k xs u.1)

pub under_groups : (Q s : ℕ) → AllBelowBase 10000 (groups_of Q s)
under_groups Q s =
    let all : List ℕ = all_groups Q s in
    let u : AllBelowBase 10000 all = under_digits_in 10000 (whole_groups Q s + fours s) (filled Q s) (omega arith) in
    by_cases (λ w gs. AllBelowBase 10000 gs) Q s
    (λ z. under_drop 10000 (prefix_len is_zero all) all u)
    (λ nz z. under_take 10000 (length all - suffix_len is_zero all) all u)
    (λ nz r. u)

zero_faithful : (sign : Sign) (d p : ℕ) → 0 < d → Faithful sign 0 d p (bare plus_word)
zero_faithful sign d p h = record {
  sign_is = λ some. absurd (omega arith);
  zero_is = λ z. refl;
  scale_is = record { within = omega arith; goes_on = λ t l e. absurd (omega arith); stops = λ l. zero-mod d };
  some_unit = λ i l. absurd (omega arith);
  exact = λ e en. sym (ap (λ x. x * 10000 ^ e) (zero-div d) ∙ zero-mul (10000 ^ e));
  not_above = λ e en. omega (arith, zero-mul d);
  within_a_unit = λ e en. omega (arith, zero-mul (10000 ^ e), mul-pos (one-le-pow e 10000 (omega arith)) h);
  groups_below = tt;
}

some_faithful : (sign : Sign) (n d p : ℕ) → 0 < d → (n ≡ 0 → ⊥) → Faithful sign n d p (cut_package sign n d (scale_of n d (precision_in_force p)))
some_faithful sign n d p h nz =
    let s : ℕ = scale_of n d (precision_in_force p) in
    let Q : ℕ = cut n d s in
    let q : Package = package_of (sign_word sign) Q s in
    record {
      sign_is = λ some. refl;
      zero_is = λ z. absurd (nz z);
      scale_is = scale_is n d (precision_in_force p);
      some_unit = some_unit (sign_word sign) Q s;
      exact = exact (sign_word sign) Q s;
      not_above = λ e en. not_above n d s (amount q e) (10000 ^ e) (exact (sign_word sign) Q s e en);
      within_a_unit = λ e en. less_than_a_unit n d s (amount q e) (10000 ^ e) h (one-le-pow e 10000 (omega arith)) (exact (sign_word sign) Q s e en);
      groups_below = under_groups Q s;
    }

pub writing_faithful : WritingFaithful
unfolding written
writing_faithful sign n d p h =
    cond_both (eqb n 0) (bare plus_word) (cut_package sign n d (scale_of n d (precision_in_force p))) (Faithful sign n d p)
    (λ z. let e : 0 ≡ n = sym (eqb-true n 0 z) in subst (λ x. Faithful sign x d p (bare plus_word)) e (zero_faithful sign d p h))
    (λ nz. some_faithful sign n d p h (eqb-false n 0 nz))
