-- A divisor below 2^k has an expansion that ends within k decimals, or never.
use Rattle.std.proofs.Common.{◌≡◌, ℕ, zero, suc, ◌+◌, ◌*◌, ◌/◌, ◌%◌, ◌^◌, ◌<◌, min, sym, ap, ◌∙◌, subst, ⊎_elim, mod-eq_of_lt, mul_assoc, add-mul, pow-suc, zero-add, mul_left_comm, arith, pow-add}
use native.Mathlib.Nat.{pow-zero, pow-succ', div-add-mod, mul-mod_right, eq_of_mul-eq-mul_left}
use Rattle.std.proofs.lemmas.Bool.{cases_eq, cases_lt}
use Rattle.division.specs.Expansion.{rest, coming}
use Rattle.division.proofs.Decimals.{lesser}
use Rattle.numeric.specs.Cut.{Ends, scale_of, Scale}
use Rattle.numeric.proofs.Cut.{rest_is, scale_is, scale_unique}

-- DIVISIBILITY as an equation

factor : (m d : ℕ) → m % d ≡ 0 → d * (m / d) ≡ m
factor m d z = omega (arith, div-add-mod m d)

divides : (m d c : ℕ) → d * c ≡ m → m % d ≡ 0
divides m d c e = ap (λ x. x % d) (sym e) ∙ mul-mod_right d c

times : (m d y : ℕ) → m % d ≡ 0 → m * y % d ≡ 0
times m d y z = divides (m * y) d (m / d * y) (sym (mul_assoc d (m / d) y) ∙ ap (λ x. x * y) (factor m d z))

with_factor : (a m d : ℕ) → m % d ≡ 0 → a * m % (a * d) ≡ 0
with_factor a m d z = divides (a * m) (a * d) (m / d) (mul_assoc a d (m / d) ∙ ap (λ x. a * x) (factor m d z))

without_factor : (a m d : ℕ) → 0 < a → a * m % (a * d) ≡ 0 → m % d ≡ 0
without_factor a m d pos z =
    let c : ℕ = a * m / (a * d) in
    divides m d c (eq_of_mul-eq-mul_left a pos (d * c) m (sym (mul_assoc a d c) ∙ factor (a * m) (a * d) z))

-- an expansion that ends stays ended
later : (n d t j : ℕ) → Ends n d t → Ends n d (t + j)
later n d t j z = ap (λ x. x % d) (ap (λ x. n * x) (pow-add 10 t j) ∙ sym (mul_assoc n (10 ^ t) (10 ^ j))) ∙ times (n * 10 ^ t) d (10 ^ j) z

-- A DIVISOR WITH A FACTOR OF 10

tens : (a b n t : ℕ) → a * b ≡ 10 → n * 10 ^ suc t ≡ a * (b * n * 10 ^ t)
tens a b n t ten =
    ap (λ x. n * x) (pow-succ' 10 t)
    ∙ mul_left_comm n 10 (10 ^ t)
    ∙ ap (λ x. x * (n * 10 ^ t)) (sym ten)
    ∙ mul_assoc a b (n * 10 ^ t)
    ∙ ap (λ x. a * x) (sym (mul_assoc b n (10 ^ t)))

split_off : (a b n d t k : ℕ) → a * b ≡ 10 → 0 < a → (Ends (b * n) d t → Ends (b * n) d k) → Ends n (a * d) t → Ends n (a * d) (suc k)
split_off a b n d t k ten pos on z =
    let more : Ends n (a * d) (suc t) = subst (Ends n (a * d)) (omega arith) (later n (a * d) t 1 z) in
    let less : Ends (b * n) d t = without_factor a (b * n * 10 ^ t) d pos (ap (λ x. x % (a * d)) (sym (tens a b n t ten)) ∙ more) in
    ap (λ x. x % (a * d)) (tens a b n k ten) ∙ with_factor a (b * n * 10 ^ k) d (on less)

split : (a b n d t k : ℕ) → a * b ≡ 10 → a * (d / a) ≡ d → 0 < a → (Ends (b * n) (d / a) t → Ends (b * n) (d / a) k) → Ends n d t → Ends n d (suc k)
split a b n d t k ten all pos on z =
    subst (λ x. Ends n x (suc k)) all (split_off a b n (d / a) t k ten pos on (subst (λ x. Ends n x t) (sym all) z))

-- A DIVISOR WITH NONE

-- by the last digit
last_digit : (d c m r : ℕ) → d % 10 ≡ r → d * c ≡ 10 * m → 10 * (d / 10 * c) + r * c ≡ 10 * m
last_digit d c m r is e =
    let parts : 10 * (d / 10) + r ≡ d = omega (arith, div-add-mod d 10) in
    ap (λ x. x + r * c) (sym (mul_assoc 10 (d / 10) c)) ∙ sym (add-mul (10 * (d / 10)) r c) ∙ ap (λ x. x * c) parts ∙ e

tenfold : (c y z : ℕ) → c + 10 * y ≡ 10 * z → c % 10 ≡ 0
tenfold c y z e = omega arith

-- 10 divides the other factor: 1 × 1, 3 × 7 and 9 × 9 end in 1
other : (d c m : ℕ) → (d % 2 ≡ 0 → ⊥) → (d % 5 ≡ 0 → ⊥) → d * c ≡ 10 * m → c % 10 ≡ 0
other d c m two five e =
    let y : ℕ = d / 10 * c in
    ⊎_elim
    (λ is. tenfold c y m (omega (arith, last_digit d c m 1 is e)))
    (λ n1. ⊎_elim
    (λ is. tenfold c (7 * y + 2 * c) (7 * m) (omega (arith, last_digit d c m 3 is e)))
    (λ n3. ⊎_elim
    (λ is. tenfold c (3 * y + 2 * c) (3 * m) (omega (arith, last_digit d c m 7 is e)))
    (λ n7. tenfold c (9 * y + 8 * c) (9 * m) (omega (arith, last_digit d c m 9 (omega arith) e)))
    (cases_eq (d % 10) 7))
    (cases_eq (d % 10) 3))
    (cases_eq (d % 10) 1)

no_ten : (d m : ℕ) → (d % 2 ≡ 0 → ⊥) → (d % 5 ≡ 0 → ⊥) → 10 * m % d ≡ 0 → m % d ≡ 0
no_ten d m two five z =
    let c : ℕ = 10 * m / d in
    let e : d * c ≡ 10 * m = factor (10 * m) d z in
    let all : 10 * (c / 10) ≡ c = omega (arith, other d c m two five e) in
    let up : 10 * (d * (c / 10)) ≡ 10 * m = mul_left_comm 10 d (c / 10) ∙ ap (λ x. d * x) all ∙ e in
    divides m d (c / 10) (omega arith)

at_once : (n d t : ℕ) → (d % 2 ≡ 0 → ⊥) → (d % 5 ≡ 0 → ⊥) → Ends n d t → Ends n d 0
at_once n d zero two five z = z
at_once n d (suc t) two five z =
    let out : n * 10 ^ suc t ≡ 10 * (n * 10 ^ t) = ap (λ x. n * x) (pow-succ' 10 t) ∙ mul_left_comm n 10 (10 ^ t) in
    at_once n d t two five (no_ten d (n * 10 ^ t) two five (ap (λ x. x % d) (sym out) ∙ z))

-- ALL DIVISORS

pub ends_by : (k n d t : ℕ) → 0 < d → d < 2 ^ k → Ends n d t → Ends n d k
ends_by zero n d t pos small z = absurd (omega (arith, pow-zero 2))
ends_by (suc k) n d t pos small z =
    let more = pow-suc 2 k in
    ⊎_elim
    (λ two. split 2 5 n d t k (omega arith) (omega arith) (omega arith) (ends_by k (5 * n) (d / 2) t (omega arith) (omega arith)) z)
    (λ no-two. ⊎_elim
    (λ five. split 5 2 n d t k (omega arith) (omega arith) (omega arith) (ends_by k (2 * n) (d / 5) t (omega arith) (omega arith)) z)
    (λ no-five. subst (Ends n d) (zero-add (suc k)) (later n d 0 (suc k) (at_once n d t no-two no-five z)))
    (cases_eq (d % 5) 0))
    (cases_eq (d % 2) 0)

-- HOW MANY DECIMALS COME, by the first 64

rest_ends : (r d i : ℕ) → r < d → rest d r 0 i ≡ r * 10 ^ i % d
rest_ends r d i lt = ap (λ x. rest d x 0 i) (sym (mod-eq_of_lt lt)) ∙ rest_is d r i

scale_coming : (r d p : ℕ) → r < d → Scale r d p (coming d r p)
unfolding scale_of
scale_coming r d p lt = subst (λ x. Scale r d p (coming d x p)) (mod-eq_of_lt lt) (scale_is r d p)

-- they end among them
pub counted_ends : (r d p : ℕ) → r < d → d < 2 ^ 64 → rest d r 0 (coming d r (min p 64)) ≡ 0 → coming d r p ≡ coming d r (min p 64)
counted_ends r d p lt small z =
    let s : ℕ = coming d r (min p 64) in
    let some = scale_coming r d (min p 64) lt in
    scale_unique r d p (coming d r p) s (scale_coming r d p lt)
    record { within = omega (arith, some.within); goes_on = some.goes_on; stops = λ l. sym (rest_ends r d s lt) ∙ z }

-- or never
pub counted_goes_on : (r d p : ℕ) → r < d → d < 2 ^ 64 → (rest d r 0 (coming d r (min p 64)) ≡ 0 → ⊥) → coming d r p ≡ p
counted_goes_on r d p lt small on =
    let m : ℕ = min p 64 in
    let some = lesser d r m in
    let all = lesser d r p in
    let full : coming d r m ≡ m = ⊎_elim (λ l. absurd (on (some.2 l))) (λ ge. omega (arith, some.0)) (cases_lt (coming d r m) m) in
    ⊎_elim
    (λ l. absurd (⊎_elim
    (λ far.
    let e : 64 ≡ coming d r m = omega arith in
    let end : Ends r d 64 = ends_by 64 r d (coming d r p) (omega arith) small (sym (rest_ends r d (coming d r p) lt) ∙ all.2 l) in
    on (subst (λ x. rest d r 0 x ≡ 0) e (rest_ends r d 64 lt ∙ end)))
    (λ near.
    let e : m ≡ p = omega arith in
    let same : coming d r m ≡ coming d r p = ap (coming d r) e in
    omega arith)
    (cases_lt 64 p)))
    (λ ge. omega (arith, all.0))
    (cases_lt (coming d r p) p)
