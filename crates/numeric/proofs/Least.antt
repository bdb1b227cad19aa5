-- The bounded search, and the width that it finds.
use Rattle.std.proofs.Common.{◌≡◌, ℕ, zero, suc, ◌+◌, ◌^◌, ◌<◌, ◌≤◌, Bool, true, false, ltb, ap, ◌∙◌, subst, ⊎_elim, arith}
use native.Mathlib.Nat.{pow-zero}
use Rattle.std.proofs.lemmas.Bool.{cond_both, ltb-true, ltb-false, cases_lt}
use Rattle.numeric.specs.Package.{least_from, width}
use Rattle.numeric.proofs.Numbers.{lt_pow}

pub record Least (f : ℕ → Bool) (k i r : ℕ) : Type 0 where
  pub start : i ≤ r
  pub end : r ≤ i + k
  pub fails : (t : ℕ) → i ≤ t → t < r → f t ≡ false
  pub passes : r < i + k → f r ≡ true

later : (f : ℕ → Bool) (k i r : ℕ) → f i ≡ false → Least f k (suc i) r → Least f (suc k) i r
later f k i r bad l = record {
  start = omega (arith, l.start);
  end = omega (arith, l.end);
  fails = λ t a b. ⊎_elim (λ lt. l.fails t lt b) (λ le. let e : i ≡ t = omega arith in subst (λ x. f x ≡ false) e bad) (cases_lt i t);
  passes = λ h. l.passes (omega arith);
}

pub least : (f : ℕ → Bool) (k i : ℕ) → Least f k i (least_from f k i)
least f zero i = record { start = omega arith; end = omega arith; fails = λ t a b. absurd (omega arith); passes = λ h. absurd (omega arith) }
least f (suc k) i =
    cond_both (f i) i (least_from f k (suc i)) (λ r. Least f (suc k) i r)
    (λ t. record { start = omega arith; end = omega arith; fails = λ x a b. absurd (omega arith); passes = λ h. t })
    (λ bad. later f k i (least_from f k (suc i)) bad (least f k (suc i)))

-- the width holds the number, and none smaller does
pub width_above : (b n : ℕ) → 2 ≤ b → n < b ^ width b n
unfolding width
width_above b n two =
    let f : ℕ → Bool = λ w. ltb n (b ^ w) in
    let l = least f n 0 in
    ⊎_elim
    (λ lt. ltb-true n (b ^ least_from f n 0) (l.passes (omega arith)))
    (λ ge. let e : n ≡ least_from f n 0 = omega (arith, l.end) in subst (λ x. n < b ^ x) e (lt_pow b n two))
    (cases_lt (least_from f n 0) n)

pub width_le : (b n k : ℕ) → n < b ^ k → width b n ≤ k
unfolding width
width_le b n k h = ⊎_elim
    (λ lt. absurd (let no_pass : b ^ k ≤ n = ltb-false n (b ^ k) ((least (λ w. ltb n (b ^ w)) n 0).fails k (omega arith) lt) in omega arith))
    (λ le. le)
    (cases_lt k (least_from (λ w. ltb n (b ^ w)) n 0))

pub width_none : (b n : ℕ) → n ≡ 0 → width b n ≡ 0
unfolding width
width_none b n z = ap (λ x. width b x) z

pub width_some : (b n : ℕ) → 2 ≤ b → (n ≡ 0 → ⊥) → 0 < width b n
width_some b n two nz = ⊎_elim
    (λ lt. lt)
    (λ le.
    let z : width b n ≡ 0 = omega arith in
    let small : n < 1 = subst (λ x. n < x) (ap (λ x. b ^ x) z ∙ pow-zero b) (width_above b n two) in
    absurd (nz (omega arith)))
    (cases_lt 0 (width b n))
