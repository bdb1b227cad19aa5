-- The trial digit of a long division, in any base from 2 on, whose remainder times the base is never formed.
use Rattle.std.proofs.Common.{◌≡◌, ℕ, zero, suc, ◌+◌, ◌-◌, ◌*◌, ◌/◌, ◌%◌, ◌<◌, ◌≤◌, sym, refl, ap, ◌∙◌, mod-lt, mul_assoc, suc-mul, mul_comm, mul-le-mul, lt_of_mul-lt-mul_right, mul-le-mul_left, mul-zero, div-add-mod', zero-mul, mul-one, mul-add, mul_left_comm, arith}
use lib.Arith.{digits_div, digits_mod}

-- n over the base, rounded up
abbrev pub up : ℕ → ℕ → ℕ
up base n = (n + (base - 1)) / base

-- d is base × a + b. Of r, q times a is off, and x is left; the digit is at most q.
pub record Trial (base a b d r q x : ℕ) : Type 0 where
  pub split : base * a + b ≡ d
  pub unit : b < base
  pub part : 0 < a
  pub left : q * a + x ≡ r
  pub over : base * r < q * d + d
  pub small : q < 2 * base

spread : (base a b d q : ℕ) → base * a + b ≡ d → q * d ≡ base * (q * a) + q * b
spread base a b d q e = ap (λ z. q * z) (sym e) ∙ mul-add q (base * a) b ∙ ap (λ z. z + q * b) (mul_left_comm q base a)

-- one more, times the base
one_more : (base x y : ℕ) → x < y → base * x + base ≤ base * y
one_more base x y h =
    let m : base * (x + 1) ≤ base * y = mul-le-mul_left base (omega arith) in
    omega (arith, mul-add base x 1, mul-one base)

up_enough : (base n : ℕ) → 0 < base → n ≤ base * up base n
up_enough base n pos =
    let m = n + (base - 1) in
    let near : m % base < base = mod-lt m pos in
    omega (arith, div-add-mod' m base, mul_comm base (up base n))

up_near : (base n : ℕ) → 0 < base → base * up base n < n + base
up_near base n pos =
    let m = n + (base - 1) in
    omega (arith, div-add-mod' m base, mul_comm base (up base n))

short_of : (base n x : ℕ) → 0 < base → x < up base n → base * x < n
short_of base n x pos h = omega (arith, one_more base x (up base n) h, up_near base n pos)

-- r is q × a + x to begin with.
trial_first : (base a b q x : ℕ) → 0 < a → b < base → x < a → q * a + x < base * a + b → Trial base a b (base * a + b) (q * a + x) q x
trial_first base a b q x part unit near below =
    let some : base * 1 ≤ base * a = mul-le-mul_left base part in
    let twice : 2 * base * a ≡ 2 * (base * a) = mul_assoc 2 base a in
    let few : q < 2 * base = lt_of_mul-lt-mul_right a {m = q} {n = 2 * base} (omega (arith, mul-one base)) in
    record {
      split = refl;
      unit = unit;
      part = part;
      left = refl;
      over = omega (arith, spread base a b (base * a + b) q refl, mul-add base (q * a) x, one_more base x a near);
      small = few;
    }

one_less : (q z : ℕ) → 0 < q → (q - 1) * z + z ≡ q * z
one_less zero z h = absurd (omega arith)
one_less (suc q) z h = let e : suc q - 1 ≡ q = omega arith in ap (λ n. n * z + z) e ∙ sym (suc-mul q z)

some_owed : (b q n : ℕ) → n < q * b → 0 < q
some_owed b zero n h = absurd (omega (arith, zero-mul b))
some_owed b (suc q) n h = omega arith

module _ (base a b d r q x : ℕ) (t : Trial base a b d r q x) where
  pos : 0 < base
  pos = omega (arith, t.unit)

  pub owed_small : q * b ≤ (2 * base - 1) * (base - 1)
  owed_small =
      let few : q ≤ 2 * base - 1 = omega (arith, t.small) in
      let h : b ≤ base - 1 = omega (arith, t.unit) in
      mul-le-mul few h

  pub trial_positive : x < up base (q * b) → 0 < q
  trial_positive short = some_owed b q (base * x) (short_of base (q * b) x pos short)

  -- The digit is at most one less.
  pub trial_less : (x' : ℕ) → x < up base (q * b) → x' ≡ x + a → Trial base a b d r (q - 1) x'
  trial_less x' short e =
      let some : 0 < q = trial_positive short in
      let lacks : base * x < q * b = short_of base (q * b) x pos short in
      let es = spread base a b d q t.split in
      let ea = one_less q a some in
      let ed = one_less q d some in
      let er : base * r ≡ base * (q * a) + base * x = ap (λ z. base * z) (sym t.left) ∙ mul-add base (q * a) x in
      record {
        split = t.split;
        unit = t.unit;
        part = t.part;
        left = omega (arith, t.left);
        over = omega arith;
        small = omega (arith, t.small);
      }

  pub trial_rest : x < up base (q * b) → x + a ≤ r
  trial_rest short = let ea = one_less q a (trial_positive short) in omega (arith, t.left)

  -- The digit is q.
  pub trial_done : (rem : ℕ) → rem + q * b ≡ base * x → r < d → (q ≡ base * r / d) × (rem ≡ base * r % d) × (q < base) × (rem < d)
  trial_done rem e below =
      let es = spread base a b d q t.split in
      let er : base * r ≡ base * (q * a) + base * x = ap (λ z. base * z) (sym t.left) ∙ mul-add base (q * a) x in
      let whole : base * r ≡ q * d + rem = omega arith in
      let small : rem < d = omega (arith, t.over) in
      let digit : q < base = lt_of_mul-lt-mul_right d {m = q} {n = base} (omega (arith, one_more base r d below, pos)) in
      (sym (ap (λ z. z / d) whole ∙ digits_div q small), sym (ap (λ z. z % d) whole ∙ digits_mod q small), digit, small)

some_part : (base a b d : ℕ) → base * a + b ≡ d → b < base → base ≤ d → 0 < a
some_part base zero b d e unit wide = absurd (omega (arith, mul-zero base))
some_part base (suc a) b d e unit wide = omega arith

-- The trial digit to begin with is r / a.
module _ (base d r a b q x : ℕ) (two : 2 ≤ base) (ea : a ≡ d / base) (eb : b ≡ d % base) (eq : q ≡ r / a) (ex : x ≡ r % a) (below : r < d) (wide : base ≤ d) where
  pub start_divisor : base * a + b ≡ d
  start_divisor = rw (ea, eb) (omega (arith, div-add-mod' d base, mul_comm base (d / base)))

  start_unit : b < base
  start_unit = rw eb (mod-lt d (omega arith))

  start_part : 0 < a
  start_part = some_part base a b d start_divisor start_unit wide

  pub start_rest : q * a + x ≡ r
  start_rest = rw (eq, ex) (div-add-mod' r a)

  pub start : Trial base a b (base * a + b) (q * a + x) q x
  start =
      let near : x < a = rw ex (mod-lt r start_part) in
      trial_first base a b q x start_part start_unit near (omega (arith, start_divisor, start_rest))
