-- The amount of the package of Q in units of 10^(-s) is Q over 10^s.
use Rattle.std.proofs.Common.{◌≡◌, ℕ, suc, ◌+◌, ◌-◌, ◌*◌, ◌/◌, ◌^◌, ◌<◌, ◌≤◌, min, cond, eqb, List, [], ◌∷◌, length, ℤ, pos, negsuc, sym, ap, ◌∙◌, subst, subst₂, ⊎_elim, mul-le-mul_right, mul_assoc, mul_comm, div-lt_iff_lt-mul, add-mul, mul-lt-mul_of_pos_right, zero-mul, mul-one, mul_right_comm, div-mul-le_self, le_of_mul-le-mul_right, arith, length-drop, length-take, pow-add}
use native.Mathlib.Nat.{one-le-pow, eq_of_mul-eq-mul_right, lt-div-mul-add}
use Rattle.std.specs.Int.Digits.{number_from_digits}
use Rattle.std.specs.List.{prefix_len, suffix_len}
use Rattle.std.proofs.lemmas.List.{nil_from_length}
use Rattle.std.proofs.lemmas.List.Sums.{prefix_len-le-length, suffix_len-le-length}
use Rattle.std.proofs.lemmas.Bool.{cases_eq, cases_lt, eq-eqb, ne_eqb, cond-true, cond-false}
use Rattle.numeric.specs.Cut.{cut}
use Rattle.numeric.specs.Package.{Reaches, exponent, amount_from, amount, Enough, fours, is_zero, whole_groups, filled, all_groups, no_leading, no_trailing, groups_of, weight_of, package_of}
use Rattle.numeric.proofs.Numbers.{number_cons, length_digits_in, number_digits_in, number_no_leading, number_no_trailing, pow_fours}
use Rattle.numeric.proofs.Least.{width_above, width_none, width_some}

-- weight + 1 + e: how many groups can stand above the unit 10000 ^ (- e)
abbrev pub places : ℤ → ℕ → ℕ
places (pos a) e = suc (a + e)
places (negsuc z) e = e - z

exponent_is : (w : ℤ) (e i : ℕ) → exponent w e i ≡ places w e - suc i
exponent_is (pos a) e i = omega arith
exponent_is (negsuc z) e i = omega arith

reaches_places : (w : ℤ) (e i : ℕ) → Reaches w e i → i < places w e
reaches_places (pos a) e i h = omega arith
reaches_places (negsuc z) e i h = omega arith

pub enough_places : (w : ℤ) (e : ℕ) (gs : List ℕ) → ((i : ℕ) → i < length gs → Reaches w e i) → length gs ≤ places w e
enough_places w e [] h = omega arith
enough_places w e (g ∷ gs) h = reaches_places w e (length gs) (h (length gs) (omega arith))

pub amount_is : (w : ℤ) (e i : ℕ) (gs : List ℕ) → i + length gs ≤ places w e
    → amount_from w e i gs ≡ number_from_digits 10000 gs * 10000 ^ (places w e - (i + length gs))
amount_is w e i [] h = omega (arith, zero-mul (10000 ^ (places w e - (i + length {A = ℕ} []))))
amount_is w e i (g ∷ gs) h =
    let k : ℕ = places w e - (i + suc (length gs)) in
    let l : ℕ = length gs in
    let up : places w e - suc i ≡ l + k = omega arith in
    let same : places w e - (suc i + l) ≡ k = omega arith in
    omega (
      arith,
      amount_is w e (suc i) gs (omega arith),
      ap (λ x. number_from_digits 10000 gs * 10000 ^ x) same,
      ap (λ x. g * 10000 ^ x) (exponent_is w e i ∙ up),
      ap (λ x. g * x) (pow-add 10000 l k),
      mul_assoc g (10000 ^ l) (10000 ^ k),
      ap (λ x. x * 10000 ^ k) (number_cons 10000 g gs),
      add-mul (g * 10000 ^ l) (number_from_digits 10000 gs) (10000 ^ k),
    )

-- y is the amount in units of 10000 ^ (- f)
abbrev Holds : ℕ → ℕ → ℤ → List ℕ → Type 0
Holds y f w gs = (e : ℕ) → ((i : ℕ) → i < length gs → Reaches w e i) → amount_from w e 0 gs * 10000 ^ f ≡ y * 10000 ^ e

-- groups with t zero groups left out behind them, the highest at weight
shifted : (w : ℤ) (gs : List ℕ) (e f t y : ℕ) → length gs ≤ places w e → number_from_digits 10000 gs * 10000 ^ t ≡ y
    → places w e + f ≡ length gs + t + e → amount_from w e 0 gs * 10000 ^ f ≡ y * 10000 ^ e
shifted w gs e f t y h n p =
    let k : ℕ = places w e - (0 + length gs) in
    let sum : k + f ≡ t + e = omega arith in
    ap (λ x. x * 10000 ^ f) (amount_is w e 0 gs (omega arith))
    ∙ mul_assoc (number_from_digits 10000 gs) (10000 ^ k) (10000 ^ f)
    ∙ ap (λ x. number_from_digits 10000 gs * x) (sym (pow-add 10000 k f) ∙ ap (λ x. 10000 ^ x) sum ∙ pow-add 10000 t e)
    ∙ sym (mul_assoc (number_from_digits 10000 gs) (10000 ^ t) (10000 ^ e))
    ∙ ap (λ x. x * 10000 ^ e) n

-- THE NUMBER OF ALL GROUPS

-- 10^s filled up to whole groups
pub filled_units : (g s : ℕ) → 10000 ^ g * 10 ^ s * 10 ^ (4 * fours s - s) ≡ 10000 ^ (g + fours s)
filled_units g s =
    let r : ℕ = 4 * fours s - s in
    let e : s + r ≡ 4 * fours s = omega arith in
    mul_assoc (10000 ^ g) (10 ^ s) (10 ^ r)
    ∙ ap (λ x. 10000 ^ g * x) (sym (pow-add 10 s r) ∙ ap (λ x. 10 ^ x) e ∙ sym (pow_fours (fours s)))
    ∙ sym (pow-add 10000 g (fours s))

pub filled_below : (Q s : ℕ) → filled Q s < 10000 ^ (whole_groups Q s + fours s)
filled_below Q s =
    let g : ℕ = whole_groups Q s in
    let a : Q < 10000 ^ g * 10 ^ s = (div-lt_iff_lt-mul (one-le-pow s 10 (omega arith))).0 (width_above 10000 (Q / 10 ^ s) (omega arith)) in
    subst (λ x. filled Q s < x) (filled_units g s) (mul-lt-mul_of_pos_right a (one-le-pow (4 * fours s - s) 10 (omega arith)))

pub number_all : (Q s : ℕ) → number_from_digits 10000 (all_groups Q s) ≡ filled Q s
number_all Q s = number_digits_in 10000 (whole_groups Q s + fours s) (filled Q s) (omega arith) (filled_below Q s)

pub filled_is : (Q s : ℕ) → filled Q s * 10 ^ s ≡ Q * 10000 ^ fours s
filled_is Q s =
    let r : ℕ = 4 * fours s - s in
    let e : r + s ≡ 4 * fours s = omega arith in
    mul_assoc Q (10 ^ r) (10 ^ s) ∙ ap (λ x. Q * x) (sym (pow-add 10 r s) ∙ ap (λ x. 10 ^ x) e ∙ sym (pow_fours (fours s)))

-- THE THREE CASES OF THE RULE

pub whole_groups_none : (Q s : ℕ) → Q / 10 ^ s ≡ 0 → whole_groups Q s ≡ 0
whole_groups_none Q s z = width_none 10000 (Q / 10 ^ s) z

pub whole_groups_some : (Q s : ℕ) → (Q / 10 ^ s ≡ 0 → ⊥) → 0 < whole_groups Q s
whole_groups_some Q s nz = width_some 10000 (Q / 10 ^ s) (omega arith) nz

pub length_all : (Q s : ℕ) → length (all_groups Q s) ≡ whole_groups Q s + fours s
length_all Q s = length_digits_in 10000 (whole_groups Q s + fours s) (filled Q s)

below_one : (Q s : ℕ) → Q / 10 ^ s ≡ 0 → Holds (filled Q s) (fours s) (negsuc (min (prefix_len is_zero (all_groups Q s)) (s / 4))) (no_leading (all_groups Q s))
below_one Q s z e en =
    let all : List ℕ = all_groups Q s in
    let k : ℕ = prefix_len is_zero all in
    let w : ℤ = negsuc (min k (s / 4)) in
    let f : ℕ = fours s in
    let long : length all ≡ f = length_all Q s ∙ omega (arith, whole_groups_none Q s z) in
    let short : length (no_leading all) ≡ f - k = length-drop k all ∙ omega arith in
    let room : length (no_leading all) ≤ places w e = enough_places w e (no_leading all) en in
    let val : number_from_digits 10000 (no_leading all) ≡ filled Q s = number_no_leading 10000 all ∙ number_all Q s in
    ⊎_elim
    (λ lt. shifted w (no_leading all) e f 0 (filled Q s) room (mul-one (number_from_digits 10000 (no_leading all)) ∙ val) (omega (arith, prefix_len-le-length is_zero all)))
    (λ ge.
    let nil : no_leading all ≡ [] = nil_from_length (no_leading all) (omega arith) in
    let none : filled Q s ≡ 0 = sym val ∙ ap (number_from_digits 10000) nil in
    ap (λ x. amount_from w e 0 x * 10000 ^ f) nil ∙ zero-mul (10000 ^ f) ∙ sym (ap (λ x. x * 10000 ^ e) none ∙ zero-mul (10000 ^ e)))
    (cases_lt k f)

above_one : (Q s : ℕ) → (Q / 10 ^ s ≡ 0 → ⊥) → Holds (filled Q s) (fours s) (pos (whole_groups Q s - 1)) (all_groups Q s)
above_one Q s nz e en =
    let all : List ℕ = all_groups Q s in
    let w : ℤ = pos (whole_groups Q s - 1) in
    shifted w all e (fours s) 0 (filled Q s) (enough_places w e all en)
    (mul-one (number_from_digits 10000 all) ∙ number_all Q s)
    (omega (arith, length_all Q s, whole_groups_some Q s nz))

whole_number : (Q s : ℕ) → (Q / 10 ^ s ≡ 0 → ⊥) → Holds (filled Q s) (fours s) (pos (whole_groups Q s - 1)) (no_trailing (all_groups Q s))
whole_number Q s nz e en =
    let all : List ℕ = all_groups Q s in
    let t : ℕ = suffix_len is_zero all in
    let w : ℤ = pos (whole_groups Q s - 1) in
    let short : length (no_trailing all) ≡ length all - t = length-take (length all - t) all ∙ omega arith in
    shifted w (no_trailing all) e (fours s) t (filled Q s) (enough_places w e (no_trailing all) en)
    (number_no_trailing 10000 all ∙ number_all Q s)
    (omega (arith, length_all Q s, whole_groups_some Q s nz, suffix_len-le-length is_zero all))

-- what holds of the weight and the groups in each of the three cases holds of the package's
pub by_cases : (P : ℤ → List ℕ → Type 0) (Q s : ℕ)
    → (Q / 10 ^ s ≡ 0 → P (negsuc (min (prefix_len is_zero (all_groups Q s)) (s / 4))) (no_leading (all_groups Q s)))
    → ((Q / 10 ^ s ≡ 0 → ⊥) → s ≡ 0 → P (pos (whole_groups Q s - 1)) (no_trailing (all_groups Q s)))
    → ((Q / 10 ^ s ≡ 0 → ⊥) → (s ≡ 0 → ⊥) → P (pos (whole_groups Q s - 1)) (all_groups Q s))
    → P (weight_of Q s) (groups_of Q s)
unfolding groups_of weight_of
by_cases P Q s one two three =
    let all : List ℕ = all_groups Q s in
    let below : ℤ = negsuc (min (prefix_len is_zero all) (s / 4)) in
    let above : ℤ = pos (whole_groups Q s - 1) in
    let rest : List ℕ = cond (eqb s 0) (no_trailing all) all in
    ⊎_elim
    (λ z.
    let t = eq-eqb (Q / 10 ^ s) 0 z in
    subst₂ P (sym (cond-true (eqb (Q / 10 ^ s) 0) below above t)) (sym (cond-true (eqb (Q / 10 ^ s) 0) (no_leading all) rest t)) (one z))
    (λ nz.
    let t = ne_eqb (Q / 10 ^ s) 0 nz in
    subst₂ P (sym (cond-false (eqb (Q / 10 ^ s) 0) below above t)) (sym (cond-false (eqb (Q / 10 ^ s) 0) (no_leading all) rest t))
    (⊎_elim
    (λ z. subst (P above) (sym (cond-true (eqb s 0) (no_trailing all) all (eq-eqb s 0 z))) (two nz z))
    (λ r. subst (P above) (sym (cond-false (eqb s 0) (no_trailing all) all (ne_eqb s 0 r))) (three nz r))
    (cases_eq s 0)))
    (cases_eq (Q / 10 ^ s) 0)

holds : (Q s : ℕ) → Holds (filled Q s) (fours s) (weight_of Q s) (groups_of Q s)
holds Q s = by_cases (Holds (filled Q s) (fours s)) Q s (below_one Q s) (λ nz z. whole_number Q s nz) (λ nz r. above_one Q s nz)

-- THE THEOREM

pub exact : (sign Q s e : ℕ) → Enough (package_of sign Q s) e → amount (package_of sign Q s) e * 10 ^ s ≡ Q * 10000 ^ e
exact sign Q s e en =
    let a : ℕ = amount (package_of sign Q s) e in
    let f : ℕ = 10000 ^ fours s in
    let g : ℕ = 10000 ^ e in
    let t : ℕ = 10 ^ s in
    eq_of_mul-eq-mul_right f (one-le-pow (fours s) 10000 (omega arith)) (a * t) (Q * g)
    (mul_right_comm a t f ∙ ap (λ x. x * t) (holds Q s e en) ∙ mul_right_comm (filled Q s) g t ∙ ap (λ x. x * g) (filled_is Q s) ∙ mul_right_comm Q f g)

-- an amount a in units 1/g that is n over d cut at s is not above n over d
pub not_above : (n d s a g : ℕ) → a * 10 ^ s ≡ cut n d s * g → a * d ≤ n * g
not_above n d s a g is =
    let t : ℕ = 10 ^ s in
    let floor : cut n d s * d * g ≤ n * t * g = mul-le-mul_right g (div-mul-le_self (n * t) d) in
    let same : a * d * t ≡ cut n d s * d * g = mul_right_comm a d t ∙ ap (λ x. x * d) is ∙ mul_right_comm (cut n d s) g d in
    le_of_mul-le-mul_right {k = t} (omega (arith, floor, same, mul_right_comm n t g)) (one-le-pow s 10 (omega arith))

-- and short of it by less than 10^(-s)
pub less_than_a_unit : (n d s a g : ℕ) → 0 < d → 0 < g → a * 10 ^ s ≡ cut n d s * g → n * 10 ^ s * g < (a * 10 ^ s + g) * d
less_than_a_unit n d s a g h some is =
    let t : ℕ = 10 ^ s in
    let c : ℕ = cut n d s in
    let floor : n * t * g < (c * d + d) * g = mul-lt-mul_of_pos_right (lt-div-mul-add h) some in
    omega (arith, floor, ap (λ x. (x + g) * d) is, add-mul (c * g) g d, add-mul (c * d) d g, mul_right_comm c g d, mul_comm g d)

-- units of the last group are small enough
some_below : (Q s : ℕ) → Q / 10 ^ s ≡ 0 → (i : ℕ) → i < length (no_leading (all_groups Q s)) → Reaches (negsuc (min (prefix_len is_zero (all_groups Q s)) (s / 4))) (fours s) i
some_below Q s z i lt =
    let all : List ℕ = all_groups Q s in
    let k : ℕ = prefix_len is_zero all in
    let long : length all ≡ fours s = length_all Q s ∙ omega (arith, whole_groups_none Q s z) in
    let short : length (no_leading all) ≡ fours s - k = length-drop k all ∙ omega arith in
    omega arith

some_above : (Q s : ℕ) (gs : List ℕ) → (Q / 10 ^ s ≡ 0 → ⊥) → length gs ≤ length (all_groups Q s) → (i : ℕ) → i < length gs → Reaches (pos (whole_groups Q s - 1)) (fours s) i
some_above Q s gs nz le i lt = omega (arith, length_all Q s, whole_groups_some Q s nz)

pub some_unit : (sign Q s : ℕ) → Enough (package_of sign Q s) (fours s)
some_unit sign Q s =
    let all : List ℕ = all_groups Q s in
    by_cases (λ w gs. (i : ℕ) → i < length gs → Reaches w (fours s) i) Q s
    (some_below Q s)
    (λ nz z. some_above Q s (no_trailing all) nz (omega (arith, length-take (length all - suffix_len is_zero all) all)))
    (λ nz r. some_above Q s all nz (omega arith))
