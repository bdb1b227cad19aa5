-- The digits of an expansion form the quotient, and as many come as are wanted and there are.
use Rattle.std.proofs.Common.{◌≡◌, ℕ, zero, suc, ◌+◌, ◌-◌, ◌*◌, ◌/◌, ◌%◌, ◌^◌, ◌<◌, sym, refl, ap, ◌∙◌, mod-lt, mul_assoc, add-mul, one-mul, mul-zero, div-add-mod', zero-add, zero-mul, mul-one, mul-add, mul_left_comm, arith}
use native.Mathlib.Nat.{pow-succ'}
use Rattle.division.specs.Digits.{fed, shifted}
use Rattle.division.specs.Expansion.{digits, rest, coming}
use Rattle.division.specs.Laws.{Lesser}

-- one digit off m, in units of u
shift : (h u m : ℕ) → h * (10 * u) + m ≡ shifted h (m / u) * u + m % u
shift h u m =
    let a : h * (10 * u) ≡ 10 * (h * u) = mul_left_comm h 10 u in
    let b : (10 * h + m / u) * u ≡ 10 * h * u + m / u * u = add-mul (10 * h) (m / u) u in
    let e : 10 * h * u ≡ 10 * (h * u) = mul_assoc 10 h u in
    let f = div-add-mod' m u in
    omega arith

forms : (d j m p h : ℕ) → (h * (10 ^ p * d) + m) * 10 ^ (j - p) ≡ fed shifted h (digits d m p j) * (10 ^ (p - j) * d) + rest d m p j
forms d zero m p h =
    let e : zero - p ≡ 0 = omega arith in
    let f : p - zero ≡ p = omega arith in
    rw (e, f) (mul-one (h * (10 ^ p * d) + m))
forms d (suc j) m zero h =
    let ih = forms d j (10 * m % d) zero (shifted h (10 * m / d)) in
    let e : suc j - 0 ≡ suc j = omega arith in
    let f : 0 - suc j ≡ 0 - j = omega arith in
    let g : j - 0 ≡ j = omega arith in
    let one : 10 ^ 0 * d ≡ d = one-mul d in
    let s = shift h d (10 * m) in
    let front : (h * d + m) * (10 * 10 ^ j) ≡ (shifted h (10 * m / d) * d + 10 * m % d) * 10 ^ j =
    mul_left_comm (h * d + m) 10 (10 ^ j) ∙ sym (mul_assoc 10 (h * d + m) (10 ^ j)) ∙ ap (λ z. z * 10 ^ j) (mul-add 10 (h * d) m ∙ ap (λ z. z + 10 * m) (sym (mul_left_comm h 10 d)) ∙ s) in
    rw (one, e, f, pow-succ' 10 j) (front ∙ (rw (one, g) at ih))
forms d (suc j) m (suc p) h =
    let ih = forms d j (m % (10 ^ p * d)) p (shifted h (m / (10 ^ p * d))) in
    let e : suc j - suc p ≡ j - p = omega arith in
    let f : suc p - suc j ≡ p - j = omega arith in
    let u : 10 ^ suc p * d ≡ 10 * (10 ^ p * d) = ap (λ z. z * d) (pow-succ' 10 p) ∙ mul_assoc 10 (10 ^ p) d in
    rw (e, f, u) (ap (λ z. z * 10 ^ (j - p)) (shift h (10 ^ p * d) m) ∙ ih)

-- a rest that is below its whole has a divisor
pub some_divisor : (d m p : ℕ) → m < 10 ^ p * d → 0 < d
some_divisor zero m p h = absurd (omega (arith, mul-zero (10 ^ p)))
some_divisor (suc d) m p h = omega arith

-- and so is each rest after it
pub below : (d j m p : ℕ) → m < 10 ^ p * d → rest d m p j < 10 ^ (p - j) * d
below d zero m p h = let e : p - zero ≡ p = omega arith in rw e h
below d (suc j) m zero h =
    let f : 0 - suc j ≡ 0 - j = omega arith in
    rw f (below d j (10 * m % d) zero (rw (one-mul d) (mod-lt (10 * m) (some_divisor d m zero h))))
below d (suc j) m (suc p) h =
    let f : suc p - suc j ≡ p - j = omega arith in
    let u : 10 ^ suc p * d ≡ 10 * (10 ^ p * d) = ap (λ z. z * d) (pow-succ' 10 p) ∙ mul_assoc 10 (10 ^ p) d in
    rw f (below d j (m % (10 ^ p * d)) p (mod-lt m (omega arith)))

-- After j digits Q is the number that they form. While j ≤ p it is m = Q × 10^(p-j) × d + rest, and past that
-- m × 10^(j-p) = Q × d + rest, the rest below what Q counts: so Q is m × 10^(j-p) over 10^(p-j) × d, rounded down.
abbrev pub Decimal : Type 0
Decimal =
    (d m p j : ℕ) → m < 10 ^ p * d
    → (m * 10 ^ (j - p) ≡ fed shifted 0 (digits d m p j) * (10 ^ (p - j) * d) + rest d m p j)
    × (rest d m p j < 10 ^ (p - j) * d)

-- the equation alone, which holds of every m
pub quotient : (d m p j : ℕ) → m * 10 ^ (j - p) ≡ fed shifted 0 (digits d m p j) * (10 ^ (p - j) * d) + rest d m p j
quotient d m p j = rw (zero-mul (10 ^ p * d), zero-add m) at (forms d j m p 0)

pub decimal : Decimal
decimal d m p j h = (quotient d m p j, below d j m p h)

nonzero : (d r l : ℕ) → ((i : ℕ) → i < coming d (10 * suc r % d) l → 0 < rest d (10 * suc r % d) 0 i) → (i : ℕ) → i < coming d (suc r) (suc l) → 0 < rest d (suc r) 0 i
nonzero d r l on zero h = omega arith
nonzero d r l on (suc i) h = on i (omega arith)

pub lesser : Lesser
lesser d r zero = (omega arith, λ i h. absurd (omega arith), λ h. absurd (omega arith))
lesser d zero (suc l) = (omega arith, λ i h. absurd (omega arith), λ h. refl)
lesser d (suc r) (suc l) =
    let on = lesser d (10 * suc r % d) l in
    (omega (arith, on.0), nonzero d r l on.1, λ h. on.2 (omega arith))
