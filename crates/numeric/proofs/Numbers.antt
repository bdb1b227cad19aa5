-- Numbers in a base: leading and trailing zeros, digits of a fixed count, powers of 10 and of 10000.
use Rattle.std.proofs.Common.{◌≡◌, ℕ, zero, suc, ◌+◌, ◌-◌, ◌*◌, ◌/◌, ◌%◌, ◌^◌, ◌<◌, ◌≤◌, eqb, List, [], ◌∷◌, ◌++◌, reverse, length, take, drop, replicate, sym, refl, ap, ◌∙◌, ⊎_elim, mul-le-mul_right, mul_assoc, add-mul, pow-suc, div-add-mod', zero-add, zero-mul, mul-one, add-one, arith, length-append, pow-add}
use native.Mathlib.Nat.{pow-zero, pow-succ'}
use lib.ListN.{length-replicate}
use Rattle.std.specs.Int.Digits.{number_from_digits_after, number_from_digits}
use Rattle.std.specs.List.{prefix_len, suffix_len}
use Rattle.std.proofs.lemmas.Int.Digits.{number_after_append, number_push}
use Rattle.std.proofs.lemmas.Nat.{div_below}
use Rattle.std.proofs.lemmas.List.{take_at, reverse-append, reverse-reverse, replicate_more}
use Rattle.std.proofs.lemmas.Bool.{eqb-true, cases_Bool, cond-true, cond-false}
use Rattle.numeric.specs.Package.{digits_in, is_zero, no_leading, no_trailing}

-- THE NUMBER OF A LIST

pub number_after_is : (b n : ℕ) (ds : List ℕ) → number_from_digits_after b n ds ≡ n * b ^ length ds + number_from_digits b ds
number_after_is b n [] = omega (arith, ap (λ x. n * x) (pow-zero b), mul-one n)
number_after_is b n (d ∷ ds) =
    omega (arith, number_after_is b (n * b + d) ds, number_after_is b (0 * b + d) ds, add-mul (n * b) d (b ^ length ds), add-mul (0 * b) d (b ^ length ds), mul_assoc n b (b ^ length ds), ap (λ x. n * x) (pow-succ' b (length ds)), ap (λ x. x * b ^ length ds) (zero-mul b), zero-mul (b ^ length ds))

pub number_cons : (b d : ℕ) (ds : List ℕ) → number_from_digits b (d ∷ ds) ≡ d * b ^ length ds + number_from_digits b ds
number_cons b d ds = ap (λ x. number_from_digits_after b x ds) (ap (λ x. x + d) (zero-mul b) ∙ zero-add d) ∙ number_after_is b d ds

pub number_append : (b : ℕ) (xs ys : List ℕ) → number_from_digits b (xs ++ ys) ≡ number_from_digits b xs * b ^ length ys + number_from_digits b ys
number_append b xs ys = number_after_append b 0 xs ys ∙ number_after_is b (number_from_digits b xs) ys

abbrev zeros : ℕ → List ℕ
zeros k = replicate k 0

pub number_zeros : (b k : ℕ) → number_from_digits b (replicate k 0) ≡ 0
number_zeros b zero = refl
number_zeros b (suc k) = number_cons b 0 (zeros k) ∙ omega (arith, number_zeros b k, zero-mul (b ^ length (zeros k)))

pub number_zeros_left : (b k : ℕ) (xs : List ℕ) → number_from_digits b (replicate k 0 ++ xs) ≡ number_from_digits b xs
number_zeros_left b k xs = number_append b (replicate k 0) xs ∙ omega (arith, ap (λ x. x * b ^ length xs) (number_zeros b k), zero-mul (b ^ length xs))

pub number_zeros_right : (b k : ℕ) (xs : List ℕ) → number_from_digits b (xs ++ replicate k 0) ≡ number_from_digits b xs * b ^ k
number_zeros_right b k xs = number_append b xs (replicate k 0) ∙ omega (arith, number_zeros b k, ap (λ x. number_from_digits b xs * b ^ x) (length-replicate {A = ℕ} k 0))

-- DIGITS OF A FIXED COUNT

pub length_digits_in : (b k n : ℕ) → length (digits_in b k n) ≡ k
length_digits_in b zero n = refl
length_digits_in b (suc k) n = length-append (digits_in b k (n / b)) (n % b ∷ []) ∙ omega (arith, length_digits_in b k (n / b))

pub number_digits_in : (b k n : ℕ) → 0 < b → n < b ^ k → number_from_digits b (digits_in b k n) ≡ n
number_digits_in b zero n h l = omega (arith, pow-zero b)
number_digits_in b (suc k) n h l =
    let small : n / b < b ^ k = div_below n b (b ^ k) h (omega (arith, pow-suc b k)) in
    number_push b (digits_in b k (n / b)) (n % b) ∙ omega (arith, ap (λ x. x * b) (number_digits_in b k (n / b) h small), div-add-mod' n b)

-- ZEROS LEFT OUT

front : (x : ℕ) (xs : List ℕ) → xs ≡ replicate (prefix_len is_zero xs) 0 ++ no_leading xs
    → x ∷ xs ≡ replicate (prefix_len is_zero (x ∷ xs)) 0 ++ no_leading (x ∷ xs)
front x xs ih = ⊎_elim
    (λ t.
    let z = eqb-true x 0 t in
    let e : prefix_len is_zero (x ∷ xs) ≡ suc (prefix_len is_zero xs) = cond-true (eqb x 0) (1 + prefix_len is_zero xs) 0 t ∙ omega arith in
    ap (λ y. y ∷ xs) z ∙ ap (λ y. 0 ∷ y) ih ∙ sym (ap (λ k. replicate k 0 ++ drop k (x ∷ xs)) e))
    (λ f.
    let e : prefix_len is_zero (x ∷ xs) ≡ 0 = cond-false (eqb x 0) (1 + prefix_len is_zero xs) 0 f in
    sym (ap (λ k. replicate k 0 ++ drop k (x ∷ xs)) e))
    (cases_Bool (eqb x 0))

pub leading_split : (xs : List ℕ) → xs ≡ replicate (prefix_len is_zero xs) 0 ++ no_leading xs
leading_split [] = refl
leading_split (x ∷ xs) = front x xs (leading_split xs)

pub reverse_zeros : (k : ℕ) → reverse (replicate k (zero)) ≡ replicate k 0
reverse_zeros zero = refl
reverse_zeros (suc k) = reverse-append (0 ∷ []) (replicate k 0) ∙ ap (λ x. x ++ (0 ∷ [])) (reverse_zeros k) ∙ replicate_more k 0 ∙ ap zeros (add-one k)

pub ending_split : (xs : List ℕ) → xs ≡ no_trailing xs ++ replicate (suffix_len is_zero xs) 0
ending_split xs =
    let t : ℕ = suffix_len is_zero xs in
    let rest : List ℕ = no_leading (reverse xs) in
    let whole : xs ≡ reverse rest ++ replicate t 0 =
    sym (reverse-reverse xs) ∙ ap reverse (leading_split (reverse xs)) ∙ reverse-append (replicate t 0) rest ∙ ap (λ x. reverse rest ++ x) (reverse_zeros t) in
    let long : length (reverse rest) ≡ length xs - t =
    omega (arith, ap length whole, length-append (reverse rest) (replicate t 0), length-replicate t (zero)) in
    whole ∙ ap (λ x. x ++ replicate t 0) (sym (ap (take (length xs - t)) whole ∙ take_at (reverse rest) (replicate t 0) (length xs - t) long))

pub number_no_leading : (b : ℕ) (xs : List ℕ) → number_from_digits b (no_leading xs) ≡ number_from_digits b xs
number_no_leading b xs = sym (ap (number_from_digits b) (leading_split xs) ∙ number_zeros_left b (prefix_len is_zero xs) (no_leading xs))

pub number_no_trailing : (b : ℕ) (xs : List ℕ) → number_from_digits b (no_trailing xs) * b ^ suffix_len is_zero xs ≡ number_from_digits b xs
number_no_trailing b xs = sym (ap (number_from_digits b) (ending_split xs) ∙ number_zeros_right b (suffix_len is_zero xs) (no_trailing xs))

-- POWERS OF 10000

pub pow_fours : (k : ℕ) → 10000 ^ k ≡ 10 ^ (4 * k)
pow_fours zero = refl
pow_fours (suc k) =
    let four : 4 * suc k ≡ 4 * k + 4 = omega arith in
    omega (arith, pow-suc 10000 k, pow_fours k, ap (λ x. 10 ^ x) four, pow-add 10 (4 * k) 4)

pub lt_pow : (b n : ℕ) → 2 ≤ b → n < b ^ n
lt_pow b zero h = omega (arith, pow-zero b)
lt_pow b (suc n) h = omega (arith, lt_pow b n h, pow-succ' b n, mul-le-mul_right (b ^ n) h)
