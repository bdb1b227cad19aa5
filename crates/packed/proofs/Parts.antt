-- Neighbouring parts of a word become one part, in all pairs at once.
use Rattle.std.proofs.Common.{◌≡◌, ℕ, zero, suc, ◌+◌, ◌-◌, ◌*◌, ◌/◌, ◌%◌, ◌^◌, ◌<◌, ◌≤◌, refl, sym, ap, ◌∙◌, mul-le-mul, mul-le-mul_left, mul-le-mul_right, mul_comm, mul_assoc, mul-add, add-mul, div-mul-le_self, arith}
use lib.Bits.{bit_and, and_block, and_mask}
use Rattle.std.proofs.Math.Pow.{mod-mod-pow}
use Rattle.std.proofs.lemmas.Nat.{shr-shr, shr_split, pow_pos, pow-add, mod-pow-add, mod_below, div-mul-add, mod-mul-add, and_le_l}
use Rattle.packed.specs.Digits.{decimal}
use Rattle.packed.specs.Parts.{written, lower_halves}
use Rattle.packed.proofs.Decimals.{decimal_none}
use Rattle.packed.proofs.Lowest.{decimal_cons}

-- digits are parts of four bits in base ten
pub written_digits : (k w : ℕ) → decimal k w ≡ written 4 10 k w
unfolding written
written_digits zero w = decimal_none w
written_digits (suc k) w = omega (arith, decimal_cons k w, written_digits k (w / 16))

-- q stands above two parts h and l, and e times each upper part is taken away
take_pair : (c p e base q u h l : ℕ) → e + base ≡ c → e * u ≤ q → q * p + (h * c + l) - e * (u * p + h) ≡ (q - e * u) * p + (h * base + l)
take_pair c p e base q u h l parts le =
    let upper : h * c ≡ h * e + h * base = ap (λ x. h * x) (sym parts) ∙ mul-add h e base in
    let above : q * p ≡ (q - e * u) * p + e * u * p = ap (λ x. x * p) (omega arith) ∙ add-mul (q - e * u) (e * u) p in
    let taken : e * (u * p + h) ≡ e * u * p + h * e = mul-add e (u * p) h ∙ omega (arith, mul_assoc e u p, mul_comm e h) in
    omega (arith, upper, above, taken)

module _ (b base : ℕ) (fits : base ≤ 2 ^ b) where
  -- the upper parts of n pairs
  abbrev pub upper : ℕ → ℕ → ℕ
  upper n w = bit_and (w / 2 ^ b) (lower_halves b n)

  abbrev pub joined : ℕ → ℕ → ℕ
  joined n w = w - (2 ^ b - base) * upper n w

  -- what is taken away is there
  pub room : (m w : ℕ) → (2 ^ b - base) * bit_and (w / 2 ^ b) m ≤ w
  room m w =
      let most : (2 ^ b - base) * bit_and (w / 2 ^ b) m ≤ 2 ^ b * (w / 2 ^ b) = mul-le-mul (omega arith) (and_le_l (w / 2 ^ b) m) in
      omega (arith, most, mul_comm (2 ^ b) (w / 2 ^ b), div-mul-le_self w (2 ^ b))

  -- two parts and what stands above them
  cut : (w : ℕ) → w ≡ w / 2 ^ (b + b) * 2 ^ (b + b) + (w / 2 ^ b % 2 ^ b * 2 ^ b + w % 2 ^ b)
  cut w = omega (arith, shr_split w (b + b), mod-pow-add w b b)

  square : 2 ^ (b + b) ≡ 2 ^ b * 2 ^ b
  square = pow-add 2 b b

  turned : (w : ℕ) → w / 2 ^ b / 2 ^ (b + b) ≡ w / 2 ^ (b + b) / 2 ^ b
  turned w = shr-shr w b (b + b) ∙ ap (λ e. w / 2 ^ e) (omega arith) ∙ sym (shr-shr w (b + b) b)

  -- the upper parts of the lowest pair and of those above it
  upper_more : (n w : ℕ) → upper (suc n) w ≡ upper n (w / 2 ^ (b + b)) * 2 ^ (b + b) + w / 2 ^ b % 2 ^ b
  unfolding lower_halves
  upper_more n w =
      let x : ℕ = w / 2 ^ b in
      let parts : x ≡ x / 2 ^ (b + b) * 2 ^ (b + b) + x % 2 ^ (b + b) = sym (shr_split x (b + b)) in
      let low : bit_and (x % 2 ^ (b + b)) (2 ^ b - 1) ≡ x % 2 ^ b = and_mask (x % 2 ^ (b + b)) b ∙ mod-mod-pow x b b in
      let short : 2 ^ b - 1 < 2 ^ (b + b) = omega (arith, pow_pos b, square, mul-le-mul_right (2 ^ b) (pow_pos b)) in
      ap (λ y. bit_and y (lower_halves b (suc n))) parts ∙ and_block (b + b) (x / 2 ^ (b + b)) (lower_halves b n) (x % 2 ^ (b + b)) (2 ^ b - 1) (mod_below x (2 ^ (b + b)) (pow_pos (b + b))) short ∙ rw (turned w, low) refl

  -- the lowest pair, and those above it
  joined_more : (n w : ℕ) → joined (suc n) w ≡ joined n (w / 2 ^ (b + b)) * 2 ^ (b + b) + (w / 2 ^ b % 2 ^ b * base + w % 2 ^ b)
  joined_more n w =
      let q : ℕ = w / 2 ^ (b + b) in
      let pair = take_pair (2 ^ b) (2 ^ (b + b)) (2 ^ b - base) base q (upper n q) (w / 2 ^ b % 2 ^ b) (w % 2 ^ b) (omega arith) (room (lower_halves b n) q) in
      ap (λ x. x - (2 ^ b - base) * upper (suc n) w) (cut w) ∙ ap (λ x. q * 2 ^ (b + b) + (w / 2 ^ b % 2 ^ b * 2 ^ b + w % 2 ^ b) - (2 ^ b - base) * x) (upper_more n w) ∙ pair

  -- the number of two parts has a place in their bits
  pair_fits : (w : ℕ) → w / 2 ^ b % 2 ^ b * base + w % 2 ^ b < 2 ^ (b + b)
  pair_fits w =
      let h : ℕ = w / 2 ^ b % 2 ^ b in
      let h_fits : h < 2 ^ b = mod_below (w / 2 ^ b) (2 ^ b) (pow_pos b) in
      omega (arith, mod_below w (2 ^ b) (pow_pos b), square, mul-le-mul_right (2 ^ b) h_fits, add-mul h 1 (2 ^ b), mul-le-mul_left h fits)

  -- 2 * n parts in a base are n parts in its square
  pub joined_written : (n w : ℕ) → written (b + b) (base * base) n (joined n w) ≡ written b base (n + n) w
  unfolding written
  joined_written zero w = refl
  joined_written (suc n) w =
      let q : ℕ = w / 2 ^ (b + b) in
      let pair : ℕ = w / 2 ^ b % 2 ^ b * base + w % 2 ^ b in
      let high : joined (suc n) w / 2 ^ (b + b) ≡ joined n q = ap (λ x. x / 2 ^ (b + b)) (joined_more n w) ∙ div-mul-add (joined n q) (2 ^ (b + b)) pair (pair_fits w) in
      let low : joined (suc n) w % 2 ^ (b + b) ≡ pair = ap (λ x. x % 2 ^ (b + b)) (joined_more n w) ∙ mod-mul-add (joined n q) (2 ^ (b + b)) pair (pair_fits w) in
      let W : ℕ = written b base (n + n) q in
      let above : written (b + b) (base * base) n (joined (suc n) w / 2 ^ (b + b)) ≡ W = ap (written (b + b) (base * base) n) high ∙ joined_written n q in
      let twice : written b base (suc n + suc n) w ≡ w % 2 ^ b + base * (w / 2 ^ b % 2 ^ b + base * written b base (n + n) (w / 2 ^ b / 2 ^ b)) = ap (λ k. written b base k w) {y = suc (suc (n + n))} (omega arith) in
      let deep : base * (w / 2 ^ b % 2 ^ b + base * written b base (n + n) (w / 2 ^ b / 2 ^ b)) ≡ w / 2 ^ b % 2 ^ b * base + base * base * W = ap (λ x. base * (w / 2 ^ b % 2 ^ b + base * written b base (n + n) x)) (shr-shr w b b) ∙ mul-add base (w / 2 ^ b % 2 ^ b) (base * W) ∙ omega (arith, mul_assoc base base W, mul_comm base (w / 2 ^ b % 2 ^ b)) in
      rw (low, above) (omega (arith, twice, deep))
