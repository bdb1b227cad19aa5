-- The count and the weight of a cut fraction's groups, by the digits of its whole part or the zeros before its first other digit.
use Rattle.std.proofs.Common.{◌≡◌, ℕ, suc, ◌+◌, ◌-◌, ◌*◌, ◌/◌, ◌%◌, ◌^◌, ◌<◌, ◌≤◌, min, List, [], ◌++◌, length, replicate, ℤ, pos, negsuc, sym, ap, ◌∙◌, subst, ⊎_elim, mul-le-mul_right, mul_assoc, mul_comm, div-lt_iff_lt-mul, mul-lt-mul_of_pos_right, mul-pos, le-div_iff_mul-le, zero-mul, mul-one, arith, length-append, length-drop, pow-add}
use native.Mathlib.Nat.{zero-mod, zero-div, one-le-pow, pow-le-pow_right, div-eq_of_lt}
use lib.ListN.{length-replicate}
use Rattle.std.specs.Int.Digits.{number_from_digits}
use Rattle.std.specs.List.{prefix_len}
use Rattle.std.proofs.lemmas.List.{nil_from_length}
use Rattle.std.proofs.lemmas.List.Sums.{prefix_len-le-length}
use Rattle.std.proofs.lemmas.Bool.{cases_lt}
use Rattle.division.specs.Whole.{Width}
use Rattle.numeric.specs.Cut.{cut}
use Rattle.numeric.specs.Groups.{Proper}
use Rattle.numeric.specs.Package.{digits_in, width, fours, filled, whole_groups, all_groups, is_zero, no_leading, groups_of, weight_of}
use Rattle.numeric.proofs.Amount.{by_cases, number_all, length_all, whole_groups_none}
use Rattle.numeric.proofs.Cut.{cut_whole}
use Rattle.numeric.proofs.Faithful.{under_digits_in}
use Rattle.numeric.proofs.Least.{width_above, width_none}
use Rattle.numeric.proofs.Numbers.{number_digits_in, number_no_leading, number_zeros_right}
use Rattle.numeric.proofs.Proper.{proper_width, proper_no_leading, proper_zeros, some_groups, under_all, groups_whole}
use Rattle.numeric.proofs.Whole.{width_fours, whole_fours}

-- BELOW ONE

-- k groups, the highest at weight -1 - z
abbrev Measured : ℕ → ℕ → ℤ → List ℕ → Type 0
Measured k z w gs = (length gs ≡ k) × (w ≡ negsuc z)

-- the groups that are left are as many as the number of all groups needs
below_one : (Q s : ℕ) → Q / 10 ^ s ≡ 0 → Measured (width 10000 (filled Q s)) (min (fours s - width 10000 (filled Q s)) (s / 4)) (weight_of Q s) (groups_of Q s)
below_one Q s z =
    let all : List ℕ = all_groups Q s in
    let k : ℕ = width 10000 (filled Q s) in
    let left : length (no_leading all) ≡ k =
    proper_width (no_leading all) (proper_no_leading all (under_all Q s)) ∙ ap (width 10000) (number_no_leading 10000 all ∙ number_all Q s) in
    let zeros : prefix_len is_zero all ≡ fours s - k =
    omega (arith, length-drop (prefix_len is_zero all) all, length_all Q s, whole_groups_none Q s z, prefix_len-le-length is_zero all) in
    by_cases (Measured k (min (fours s - k) (s / 4))) Q s
    (λ e. (left, ap (λ x. negsuc (min x (s / 4))) zeros))
    (λ nz e. absurd (nz z))
    (λ nz r. absurd (nz z))

-- z zeros stand before the first other digit of the fraction n over d: n * 10^z < d ≤ n * 10^(z+1), said by the width of d - 1 over n
pub before : (n d z : ℕ) → n < d → Width (d - 1) n (suc z) → n * 10 ^ z < d
before n d z lt is = ⊎_elim
    (λ some.
    let e : suc z - 1 ≡ z = omega arith in
    let le : 10 ^ z * n ≤ d - 1 = subst (λ x. 10 ^ x * n ≤ d - 1) e (is.no_zero (omega arith)) in
    omega (arith, mul_comm n (10 ^ z)))
    (λ none. let e : z ≡ 0 = omega arith in subst (λ x. n * 10 ^ x < d) (sym e) (omega (arith, mul-one n)))
    (cases_lt 0 z)

below_none_cut : (n d s z : ℕ) → n < d → Width (d - 1) n (suc z) → s ≤ z → cut n d s ≡ 0
below_none_cut n d s z lt is le =
    let less : 10 ^ s * n ≤ 10 ^ z * n = mul-le-mul_right n (pow-le-pow_right (omega arith) le) in
    div-eq_of_lt (omega (arith, before n d z lt is, mul_comm n (10 ^ s), mul_comm n (10 ^ z)))

-- none of the s decimals is another than 0
pub below_none : (n d s z : ℕ) → 0 < n → n < d → Width (d - 1) n (suc z) → s ≤ z → (groups_of (cut n d s) s ≡ []) × (weight_of (cut n d s) s ≡ negsuc (s / 4))
below_none n d s z h lt is le =
    let Q : ℕ = cut n d s in
    let none : Q ≡ 0 = below_none_cut n d s z lt is le in
    let k : width 10000 (filled Q s) ≡ 0 = width_none 10000 (filled Q s) (ap (λ x. x * 10 ^ (4 * fours s - s)) none ∙ zero-mul (10 ^ (4 * fours s - s))) in
    let m = below_one Q s (ap (λ x. x / 10 ^ s) none ∙ zero-div (10 ^ s)) in
    let least : min (fours s - width 10000 (filled Q s)) (s / 4) ≡ s / 4 = omega arith in
    (nil_from_length (groups_of Q s) (m.0 ∙ k), m.1 ∙ ap negsuc least)

-- the cut number has s - z digits
cut_below : (n d s z : ℕ) → 0 < d → n * 10 ^ z < d → z < s → cut n d s < 10 ^ (s - z)
cut_below n d s z h lt le =
    let e : z + (s - z) ≡ s = omega arith in
    let a : n * 10 ^ z * 10 ^ (s - z) < d * 10 ^ (s - z) = mul-lt-mul_of_pos_right lt (one-le-pow (s - z) 10 (omega arith)) in
    let b : n * 10 ^ z * 10 ^ (s - z) ≡ n * 10 ^ s = mul_assoc n (10 ^ z) (10 ^ (s - z)) ∙ ap (λ x. n * x) (sym (pow-add 10 z (s - z)) ∙ ap (λ x. 10 ^ x) e) in
    (div-lt_iff_lt-mul h).1 (omega (arith, mul_comm d (10 ^ (s - z))))

cut_above : (n d s z : ℕ) → 0 < d → d ≤ 10 ^ suc z * n → z < s → 10 ^ (s - z - 1) ≤ cut n d s
cut_above n d s z h le lt =
    let k : ℕ = s - z - 1 in
    let e : suc z + k ≡ s = omega arith in
    let a : d * 10 ^ k ≤ 10 ^ suc z * n * 10 ^ k = mul-le-mul_right (10 ^ k) le in
    let b : 10 ^ suc z * n * 10 ^ k ≡ n * 10 ^ s =
    ap (λ x. x * 10 ^ k) (mul_comm (10 ^ suc z) n) ∙ mul_assoc n (10 ^ suc z) (10 ^ k) ∙ ap (λ x. n * x) (sym (pow-add 10 (suc z) k) ∙ ap (λ x. 10 ^ x) e) in
    (le-div_iff_mul-le h).1 (omega (arith, mul_comm d (10 ^ k)))

-- filled up, it has 4 * fours s - z
filled_fours : (Q s z : ℕ) → z < s → 10 ^ (s - z - 1) ≤ Q → Q < 10 ^ (s - z) → width 10000 (filled Q s) ≡ fours (4 * fours s - z)
filled_fours Q s z lt low high =
    let r : ℕ = 4 * fours s - s in
    let e : s - z - 1 + r ≡ 4 * fours s - z - 1 = omega arith in
    let f : s - z + r ≡ 4 * fours s - z = omega arith in
    let a : 10 ^ (s - z - 1) * 10 ^ r ≤ Q * 10 ^ r = mul-le-mul_right (10 ^ r) low in
    let b : Q * 10 ^ r < 10 ^ (s - z) * 10 ^ r = mul-lt-mul_of_pos_right high (one-le-pow r 10 (omega arith)) in
    width_fours (Q * 10 ^ r) (4 * fours s - z) (omega arith)
    (subst (λ x. x ≤ Q * 10 ^ r) (sym (pow-add 10 (s - z - 1) r) ∙ ap (λ x. 10 ^ x) e) a)
    (subst (λ x. Q * 10 ^ r < x) (sym (pow-add 10 (s - z) r) ∙ ap (λ x. 10 ^ x) f) b)

-- some of the s decimals is another than 0
pub below_some : (n d s z : ℕ) → 0 < n → n < d → Width (d - 1) n (suc z) → z < s → (length (groups_of (cut n d s) s) + z / 4 ≡ fours s) × (weight_of (cut n d s) s ≡ negsuc (z / 4))
below_some n d s z h lt is less =
    let Q : ℕ = cut n d s in
    let k : ℕ = width 10000 (filled Q s) in
    let low : 10 ^ (s - z - 1) ≤ Q = cut_above n d s z (omega arith) (omega (arith, is.enough)) less in
    let high : Q < 10 ^ (s - z) = cut_below n d s z (omega arith) (before n d z lt is) less in
    let is_k : k ≡ fours (4 * fours s - z) = filled_fours Q s z less low high in
    let m = below_one Q s (cut_whole n d s ∙ div-eq_of_lt lt) in
    let least : min (fours s - k) (s / 4) ≡ z / 4 = omega arith in
    (omega (arith, m.0), m.1 ∙ ap negsuc least)

-- ONE AND MORE

whole_groups_fours : (n d s w : ℕ) → 0 < d → (n / d ≡ 0 → ⊥) → Width n d w → whole_groups (cut n d s) s ≡ fours w
whole_groups_fours n d s w h nz is = ap (width 10000) (cut_whole n d s) ∙ whole_fours n d w h nz is

above_weight : (n d s w : ℕ) → 0 < d → (n / d ≡ 0 → ⊥) → Width n d w → weight_of (cut n d s) s ≡ pos (fours w - 1)
above_weight n d s w h nz is =
    let is_w = ap (λ k. pos (k - 1)) (whole_groups_fours n d s w h nz is) in
    by_cases (λ v gs. v ≡ pos (fours w - 1)) (cut n d s) s (λ z. absurd (nz (sym (cut_whole n d s) ∙ z))) (λ r z. is_w) (λ r t. is_w)

-- a whole part and s decimals
pub mixed : (n d s w : ℕ) → 0 < d → (n / d ≡ 0 → ⊥) → Width n d w → 0 < s → (length (groups_of (cut n d s) s) ≡ fours w + fours s) × (weight_of (cut n d s) s ≡ pos (fours w - 1))
mixed n d s w h nz is some =
    let Q : ℕ = cut n d s in
    let long : length (groups_of Q s) ≡ fours w + fours s = by_cases (λ v gs. length gs ≡ fours w + fours s) Q s
    (λ z. absurd (nz (sym (cut_whole n d s) ∙ z)))
    (λ r z. absurd (omega arith))
    (λ r t. length_all Q s ∙ ap (λ x. x + fours s) (whole_groups_fours n d s w h nz is)) in
    (long, above_weight n d s w h nz is)

-- every number is properly written in some groups
proper_of : (x : ℕ) → (gs : List ℕ) × Proper gs × (number_from_digits 10000 gs ≡ x)
proper_of x =
    let k : ℕ = width 10000 x in
    let ds : List ℕ = digits_in 10000 k x in (
      no_leading ds,
      proper_no_leading ds (under_digits_in 10000 k x (omega arith)),
      number_no_leading 10000 ds ∙ number_digits_in 10000 k x (omega arith) (width_above 10000 x (omega arith)),
    )

whole_length : (W t : ℕ) (gs : List ℕ) → Proper gs → number_from_digits 10000 gs * 10000 ^ t ≡ W → (number_from_digits 10000 gs ≡ 0 → ⊥) → length gs + t ≡ width 10000 W
whole_length W t gs p e nz =
    let long : length (gs ++ replicate t 0) ≡ length gs + t = length-append gs (replicate t 0) ∙ ap (λ k. length gs + k) (length-replicate {A = ℕ} t 0) in
    sym long ∙ proper_width (gs ++ replicate t 0) (proper_zeros gs t p nz) ∙ ap (width 10000) (number_zeros_right 10000 t gs ∙ e)

-- a whole part alone, that t zero groups end
pub whole : (n d w t x : ℕ) → 0 < d → Width n d w → x * 10000 ^ t ≡ n / d → (x % 10000 ≡ 0 → ⊥) → (length (groups_of (cut n d 0) 0) + t ≡ fours w) × (weight_of (cut n d 0) 0 ≡ pos (fours w - 1)) × (4 * t < w)
whole n d w t x h is e nz =
    let Q : ℕ = cut n d 0 in
    let same : Q ≡ n / d = ap (λ k. k / d) (mul-one n) in
    let some : x ≡ 0 → ⊥ = λ z. nz (ap (λ k. k % 10000) z ∙ zero-mod 10000) in
    let W_some : 0 < n / d = subst (λ k. 0 < k) e (mul-pos {m = x} (omega (arith, some)) (one-le-pow t 10000 (omega arith))) in
    let W_not : n / d ≡ 0 → ⊥ = λ z. omega arith in
    let own = proper_of x in
    let gs : List ℕ = own.0 in
    let is_x : number_from_digits 10000 gs ≡ x = own.2 in
    let W_is : number_from_digits 10000 gs * 10000 ^ t ≡ n / d = ap (λ k. k * 10000 ^ t) is_x ∙ e in
    let gs_some : number_from_digits 10000 gs ≡ 0 → ⊥ = λ z. some (sym is_x ∙ z) in
    let groups : groups_of Q 0 ≡ gs = groups_whole Q t gs (omega arith) own.1 (W_is ∙ sym same) (λ z. nz (ap (λ k. k % 10000) (sym is_x) ∙ z)) in
    let long : length gs + t ≡ fours w = whole_length (n / d) t gs own.1 W_is gs_some ∙ whole_fours n d w h W_not is in
    (ap (λ k. length k + t) groups ∙ long, above_weight n d 0 w h W_not is, omega (arith, some_groups gs gs_some))
