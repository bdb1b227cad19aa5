-- Groups that a number is properly written in: there is one such list to a number, and the writing rule gives it.
use Rattle.std.proofs.Common.{◌≡◌, ℕ, zero, suc, ◌+◌, ◌-◌, ◌*◌, ◌/◌, ◌%◌, ◌^◌, ◌<◌, ◌≤◌, eqb, List, [], ◌∷◌, ◌++◌, reverse, length, drop, replicate, sym, refl, ap, ◌∙◌, subst, ⊎_elim, mul-le-mul_right, mul_assoc, pow-suc, le-div_iff_mul-le, zero-mul, mul-one, arith, length-append}
use native.Mathlib.Nat.{zero-mod, one-le-pow, mul-mod_left}
use lib.ListN.{length-replicate}
use Rattle.std.specs.Int.Digits.{number_from_digits, AllBelowBase}
use Rattle.std.specs.List.{prefix_len, suffix_len}
use Rattle.std.proofs.lemmas.Nat.{div-mul-add}
use Rattle.std.proofs.lemmas.Int.Digits.{number_lt}
use Rattle.std.proofs.lemmas.List.{take_at, reverse-append}
use Rattle.std.proofs.lemmas.Bool.{cases_Bool, cases_lt, cond-true, cond-false, eqb-false}
use Rattle.numeric.specs.Groups.{Starts, Proper}
use Rattle.numeric.specs.Package.{width, fours, filled, whole_groups, all_groups, is_zero, no_leading, no_trailing, groups_of}
use Rattle.numeric.proofs.Amount.{by_cases, filled_units, number_all, length_all, whole_groups_some}
use Rattle.numeric.proofs.Faithful.{under_append, under_digits_in, under_drop}
use Rattle.numeric.proofs.Least.{width_le, width_none}
use Rattle.numeric.proofs.Numbers.{number_cons, number_zeros_right, number_no_leading, number_no_trailing, reverse_zeros}
use Rattle.numeric.proofs.Whole.{width_is}

-- ONE LIST TO A NUMBER

-- digits of one count that write the same number are the same
pub same_from_number : (b : ℕ) (xs ys : List ℕ) → AllBelowBase b xs → AllBelowBase b ys → length xs ≡ length ys → number_from_digits b xs ≡ number_from_digits b ys → xs ≡ ys
same_from_number b [] [] u v l e = refl
same_from_number b [] (y ∷ ys) u v l e = absurd (omega arith)
same_from_number b (x ∷ xs) [] u v l e = absurd (omega arith)
same_from_number b (x ∷ xs) (y ∷ ys) u v l e =
    let P : ℕ = b ^ length xs in
    let m : ℕ = number_from_digits b xs in
    let n : ℕ = number_from_digits b ys in
    let long : length xs ≡ length ys = omega arith in
    let low : m < P = number_lt b xs u.1 in
    let high : n < P = subst (λ k. n < b ^ k) (sym long) (number_lt b ys v.1) in
    let sums : x * P + m ≡ y * P + n = sym (number_cons b x xs) ∙ e ∙ number_cons b y ys ∙ ap (λ k. y * b ^ k + n) (sym long) in
    let first : x ≡ y = sym (div-mul-add x P m low) ∙ ap (λ k. k / P) sums ∙ div-mul-add y P n high in
    let rest : m ≡ n = omega (arith, ap (λ k. k * P) first) in
    ap (λ k. k ∷ xs) first ∙ ap (λ k. y ∷ k) (same_from_number b xs ys u.1 v.1 long rest)

pub proper_width : (gs : List ℕ) → Proper gs → length gs ≡ width 10000 (number_from_digits 10000 gs)
proper_width [] p = sym (width_none 10000 0 refl)
proper_width (g ∷ gs) p =
    let P : ℕ = 10000 ^ length gs in
    let n : ℕ = number_from_digits 10000 (g ∷ gs) in
    let some : 1 * P ≤ g * P = mul-le-mul_right P p.starts in
    let low : P ≤ n = omega (arith, number_cons 10000 g gs) in
    sym (width_is 10000 n (length gs) (omega arith) low (number_lt 10000 (g ∷ gs) p.under))

pub proper_unique : (xs ys : List ℕ) → Proper xs → Proper ys → number_from_digits 10000 xs ≡ number_from_digits 10000 ys → xs ≡ ys
proper_unique xs ys p q e =
    same_from_number 10000 xs ys p.under q.under (proper_width xs p ∙ ap (width 10000) e ∙ sym (proper_width ys q)) e

-- MORE GROUPS

starts_append : (gs hs : List ℕ) → Starts gs → (length gs ≡ 0 → Starts hs) → Starts (gs ++ hs)
starts_append [] hs s h = h refl
starts_append (g ∷ gs) hs s h = s

pub proper_push : (gs : List ℕ) (g : ℕ) → Proper gs → g < 10000 → (length gs ≡ 0 → 0 < g) → Proper (gs ++ (g ∷ []))
proper_push gs g p small first = record {
  under = under_append 10000 gs (g ∷ []) p.under (small, tt);
  starts = starts_append gs (g ∷ []) p.starts first;
}

under_zeros : (t : ℕ) → AllBelowBase 10000 (replicate t 0)
under_zeros zero = tt
under_zeros (suc t) = (omega arith, under_zeros t)

pub some_groups : (gs : List ℕ) → (number_from_digits 10000 gs ≡ 0 → ⊥) → length gs ≡ 0 → ⊥
some_groups [] nz z = nz refl
some_groups (g ∷ gs) nz z = omega arith

-- a number times a power of 10000 has that many zero groups behind its own
pub proper_zeros : (gs : List ℕ) (t : ℕ) → Proper gs → (number_from_digits 10000 gs ≡ 0 → ⊥) → Proper (gs ++ replicate t 0)
proper_zeros gs t p nz = record {
  under = under_append 10000 gs (replicate t 0) p.under (under_zeros t);
  starts = starts_append gs (replicate t 0) p.starts (λ z. absurd (some_groups gs nz z));
}

-- THE GROUPS OF THE RULE

starts_no_leading : (xs : List ℕ) → Starts (no_leading xs)
starts_no_leading [] = tt
starts_no_leading (x ∷ xs) = ⊎_elim
    (λ t.
    let e : prefix_len is_zero (x ∷ xs) ≡ suc (prefix_len is_zero xs) = cond-true (eqb x 0) (1 + prefix_len is_zero xs) 0 t ∙ omega arith in
    subst (λ k. Starts (drop k (x ∷ xs))) (sym e) (starts_no_leading xs))
    (λ f.
    let e : prefix_len is_zero (x ∷ xs) ≡ 0 = cond-false (eqb x 0) (1 + prefix_len is_zero xs) 0 f in
    let some : 0 < x = omega (arith, eqb-false x 0 f) in
    subst (λ k. Starts (drop k (x ∷ xs))) (sym e) some)
    (cases_Bool (eqb x 0))

pub proper_no_leading : (xs : List ℕ) → AllBelowBase 10000 xs → Proper (no_leading xs)
proper_no_leading xs u = record { under = under_drop 10000 (prefix_len is_zero xs) xs u; starts = starts_no_leading xs }

pub under_all : (Q s : ℕ) → AllBelowBase 10000 (all_groups Q s)
under_all Q s = under_digits_in 10000 (whole_groups Q s + fours s) (filled Q s) (omega arith)

-- as many groups as the number needs begin with one that is not 0
starts_full : (gs : List ℕ) → AllBelowBase 10000 gs → 10000 ^ (length gs - 1) ≤ number_from_digits 10000 gs → Starts gs
starts_full [] u h = tt
starts_full (g ∷ gs) u h = ⊎_elim
    (λ some. some)
    (λ none.
    let z : g ≡ 0 = omega arith in
    let one : suc (length gs) - 1 ≡ length gs = omega arith in
    absurd (omega (arith, ap (λ x. 10000 ^ x) one, number_cons 10000 g gs, number_lt 10000 gs u.1, ap (λ x. x * 10000 ^ length gs) z, zero-mul (10000 ^ length gs))))
    (cases_lt 0 g)

filled_above : (Q s g : ℕ) → 10000 ^ g ≤ Q / 10 ^ s → 10000 ^ (g + fours s) ≤ filled Q s
filled_above Q s g low =
    let a : 10000 ^ g * 10 ^ s ≤ Q = (le-div_iff_mul-le (one-le-pow s 10 (omega arith))).0 low in
    subst (λ x. x ≤ filled Q s) (filled_units g s) (mul-le-mul_right (10 ^ (4 * fours s - s)) a)

pub proper_all : (Q s : ℕ) → (Q / 10 ^ s ≡ 0 → ⊥) → Proper (all_groups Q s)
proper_all Q s nz =
    let all : List ℕ = all_groups Q s in
    let W : ℕ = Q / 10 ^ s in
    let g : ℕ = whole_groups Q s - 1 in
    let low : 10000 ^ g ≤ W = ⊎_elim
    (λ lt. absurd (omega (arith, width_le 10000 W g lt, whole_groups_some Q s nz)))
    (λ le. le)
    (cases_lt W (10000 ^ g)) in
    let long : g + fours s ≡ length all - 1 = omega (arith, length_all Q s, whole_groups_some Q s nz) in
    let full : 10000 ^ (length all - 1) ≤ number_from_digits 10000 all =
    subst (λ x. 10000 ^ x ≤ number_from_digits 10000 all) long (subst (λ x. 10000 ^ (g + fours s) ≤ x) (sym (number_all Q s)) (filled_above Q s g low)) in
    record { under = under_all Q s; starts = starts_full all (under_all Q s) full }

pub groups_fraction : (Q s : ℕ) (gs : List ℕ) → 0 < s → Proper gs → number_from_digits 10000 gs ≡ filled Q s → groups_of Q s ≡ gs
groups_fraction Q s gs some p e =
    let all : List ℕ = all_groups Q s in
    by_cases (λ w xs. xs ≡ gs) Q s
    (λ z. proper_unique (no_leading all) gs (proper_no_leading all (under_all Q s)) p (number_no_leading 10000 all ∙ number_all Q s ∙ sym e))
    (λ nz z. absurd (omega arith))
    (λ nz r. proper_unique all gs (proper_all Q s nz) p (number_all Q s ∙ sym e))

-- ZERO GROUPS BEHIND A WHOLE NUMBER

leading_zeros : (t : ℕ) (xs : List ℕ) → prefix_len is_zero (replicate t 0 ++ xs) ≡ t + prefix_len is_zero xs
leading_zeros zero xs = omega arith
leading_zeros (suc t) xs = omega (arith, leading_zeros t xs)

ending_none : (gs : List ℕ) → (number_from_digits 10000 gs % 10000 ≡ 0 → ⊥) → suffix_len is_zero gs ≡ 0
ending_none gs nz = ⊎_elim
    (λ some.
    let e : ℕ = suffix_len is_zero gs - 1 in
    let n : ℕ = number_from_digits 10000 (no_trailing gs) in
    let up : suffix_len is_zero gs ≡ suc e = omega arith in
    let is : number_from_digits 10000 gs ≡ n * 10000 ^ e * 10000 =
    sym (number_no_trailing 10000 gs) ∙ ap (λ x. n * 10000 ^ x) up ∙ ap (λ x. n * x) (pow-suc 10000 e) ∙ sym (mul_assoc n (10000 ^ e) 10000) in
    absurd (nz (ap (λ x. x % 10000) is ∙ mul-mod_left (n * 10000 ^ e) 10000)))
    (λ le. omega arith)
    (cases_lt 0 (suffix_len is_zero gs))

pub no_trailing_zeros : (gs : List ℕ) (t : ℕ) → (number_from_digits 10000 gs % 10000 ≡ 0 → ⊥) → no_trailing (gs ++ replicate t 0) ≡ gs
no_trailing_zeros gs t nz =
    let xs : List ℕ = gs ++ replicate t 0 in
    let back : reverse xs ≡ replicate t 0 ++ reverse gs = reverse-append gs (replicate t 0) ∙ ap (λ x. x ++ reverse gs) (reverse_zeros t) in
    let zeros : suffix_len is_zero xs ≡ t + suffix_len is_zero gs = ap (prefix_len is_zero) back ∙ leading_zeros t (reverse gs) in
    let long : length gs ≡ length xs - suffix_len is_zero xs =
    omega (arith, length-append gs (replicate t 0), length-replicate t (zero), ending_none gs nz) in
    take_at gs (replicate t 0) (length xs - suffix_len is_zero xs) long

pub groups_whole : (Q t : ℕ) (gs : List ℕ) → 0 < Q → Proper gs → number_from_digits 10000 gs * 10000 ^ t ≡ Q → (number_from_digits 10000 gs % 10000 ≡ 0 → ⊥) → groups_of Q 0 ≡ gs
groups_whole Q t gs some p e nz =
    let all : List ℕ = all_groups Q 0 in
    let nonzero : number_from_digits 10000 gs ≡ 0 → ⊥ = λ z. nz (ap (λ x. x % 10000) z ∙ zero-mod 10000) in
    let same : (Q / 10 ^ 0 ≡ 0 → ⊥) → all ≡ gs ++ replicate t 0 = λ w.
    proper_unique all (gs ++ replicate t 0) (proper_all Q 0 w) (proper_zeros gs t p nonzero)
    (number_all Q 0 ∙ mul-one Q ∙ sym e ∙ sym (number_zeros_right 10000 t gs)) in
    by_cases (λ w xs. xs ≡ gs) Q 0
    (λ z. absurd (omega arith))
    (λ w z. ap no_trailing (same w) ∙ no_trailing_zeros gs t nz)
    (λ w r. absurd (r refl))
