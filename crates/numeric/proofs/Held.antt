-- What a sink that shifts digits in holds after digits of n over d.
use Rattle.std.proofs.Common.{◌≡◌, ℕ, zero, suc, ◌+◌, ◌-◌, ◌*◌, ◌/◌, ◌%◌, ◌^◌, ◌<◌, ◌≤◌, sym, refl, ap, ◌∙◌, suc-add, one-mul, zero-add, mul-one, arith}
use lib.Arith.{digits_div, digits_mod}
use Rattle.division.specs.Digits.{fed, shifted}
use Rattle.division.specs.Expansion.{digits, rest, coming}
use Rattle.division.proofs.Decimals.{decimal}
use Rattle.numeric.specs.Cut.{cut}

-- the digits of the whole part, one by one, and s decimals after them
on_end : (d m w s h : ℕ) → fed shifted (fed shifted h (digits d m w w)) (digits d (rest d m w w) 0 s) ≡ fed shifted h (digits d m w (w + s))
on_end d m zero s h = ap (λ k. fed shifted h (digits d m 0 k)) (sym (zero-add s))
on_end d m (suc w) s h =
    on_end d (m % (10 ^ w * d)) w s (shifted h (m / (10 ^ w * d)))
    ∙ ap (λ k. fed shifted h (digits d m (suc w) k)) (sym (suc-add w s))

pub rest_whole : (n d w : ℕ) → 0 < d → n < 10 ^ w * d → rest d n w w ≡ n % d
rest_whole n d w pos small =
    let law = decimal d n w w small in
    let none : w - w ≡ 0 = omega arith in
    let up : n * 10 ^ (w - w) ≡ n = ap (λ e. n * 10 ^ e) none ∙ mul-one n in
    let unit : 10 ^ (w - w) * d ≡ d = ap (λ e. 10 ^ e * d) none ∙ one-mul d in
    let eq = rw (up, unit) at law.0 in
    sym (ap (λ x. x % d) eq ∙ digits_mod (fed shifted 0 (digits d n w w)) (rw unit at law.1))

pub held_whole : (n d w k : ℕ) → 0 < d → n < 10 ^ w * d → k ≤ w → fed shifted 0 (digits d n w k) ≡ n / (10 ^ (w - k) * d)
held_whole n d w k pos small le =
    let law = decimal d n w k small in
    let u : ℕ = 10 ^ (w - k) * d in
    let none : k - w ≡ 0 = omega arith in
    let up : n * 10 ^ (k - w) ≡ n = ap (λ e. n * 10 ^ e) none ∙ mul-one n in
    sym (ap (λ x. x / u) (sym up ∙ law.0) ∙ digits_div (fed shifted 0 (digits d n w k)) law.1)

-- all whole digits and s decimals
held_all : (n d w s : ℕ) → n < 10 ^ w * d → fed shifted 0 (digits d n w (w + s)) ≡ cut n d s
held_all n d w s small =
    let law = decimal d n w (w + s) small in
    let none : w - (w + s) ≡ 0 = omega arith in
    let some : w + s - w ≡ s = omega arith in
    let unit : 10 ^ (w - (w + s)) * d ≡ d = ap (λ e. 10 ^ e * d) none ∙ one-mul d in
    let eq = rw (some, unit) at law.0 in
    sym (ap (λ x. x / d) eq ∙ digits_div (fed shifted 0 (digits d n w (w + s))) (rw unit at law.1))

pub held_below : (n d s : ℕ) → n < d → fed shifted 0 (digits d n 0 s) ≡ cut n d s
held_below n d s lt =
    ap (λ k. fed shifted 0 (digits d n 0 k)) (sym (zero-add s)) ∙ held_all n d 0 s (omega (arith, one-mul d))

pub held_cut : (n d w s : ℕ) → 0 < d → n < 10 ^ w * d → fed shifted (fed shifted 0 (digits d n w w)) (digits d (rest d n w w) 0 s) ≡ cut n d s
held_cut n d w s pos small = on_end d n w s 0 ∙ held_all n d w s small

-- what comes is all that comes where just so much is wanted
pub coming_again : (d r p : ℕ) → coming d r (coming d r p) ≡ coming d r p
coming_again d r zero = refl
coming_again d zero (suc p) = refl
coming_again d (suc r) (suc p) = ap suc (coming_again d (10 * suc r % d) p)
