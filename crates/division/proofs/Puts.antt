-- Digits that go into a sink one after another, and the groups of a number's digits.
use Rattle.std.proofs.Common.{◌≡◌, ℕ, zero, suc, ◌+◌, ◌-◌, ◌*◌, ◌/◌, ◌%◌, ◌^◌, ◌<◌, ◌≤◌, List, [], ◌∷◌, ◌++◌, length, sym, refl, ap, ◌∙◌, mod-lt, mod-eq_of_lt, div-lt_iff_lt-mul, suc-add, zero-add, mul-one, arith, lit<, length-append, pow-add}
use native.Mathlib.Nat.{pow-le-pow_right}
use Rattle.division.specs.Digits.{fed}
use Rattle.division.specs.Expansion.{digits}
use Rattle.division.specs.Tally.{Tally, Took}
use Rattle.division.proofs.Blocks.{ten_pos, digit_over, quotient_left, remainder_left}
use Rattle.division.proofs.Fed.{fed_append}

pub takes_join : (step : ℕ → ℕ → ℕ) (a : Tally) (xs : List ℕ) (b : Tally) (ys : List ℕ) (c : Tally) → Took step a xs b → Took step b ys c → Took step a (xs ++ ys) c
takes_join step a xs b ys c first second =
    let long = length-append xs ys in
    record {
      taken = omega (arith, first.taken, second.taken);
      left = omega (arith, first.left, second.left);
      held = second.held ∙ ap (λ z. fed step z ys) first.held ∙ sym (fed_append step a.held xs ys);
    }

-- The digits xs are still to come from the tally a on, and they come to the digits zs from a₀ on.
pub record Remain (step : ℕ → ℕ → ℕ) (a₀ : Tally) (zs : List ℕ) (a : Tally) (xs : List ℕ) : Type 0 where
  pub taken : a.taken + length xs ≡ a₀.taken + length zs
  pub left : a.left + length zs ≡ a₀.left + length xs
  pub held : fed step a.held xs ≡ fed step a₀.held zs

module _ (step : ℕ → ℕ → ℕ) (a₀ : Tally) (zs : List ℕ) where
  pub remain_all : Remain step a₀ zs a₀ zs
  remain_all = record { taken = refl; left = refl; held = refl }

  remain_none : (a : Tally) → Remain step a₀ zs a [] → Took step a₀ zs a
  remain_none a g = record { taken = omega (arith, g.taken); left = omega (arith, g.left); held = g.held }

  remain_less : (a : Tally) (xs ys : List ℕ) (b : Tally) → Took step a xs b → Remain step a₀ zs a (xs ++ ys) → Remain step a₀ zs b ys
  remain_less a xs ys b takes g =
      let long = length-append xs ys in
      record {
        taken = omega (arith, g.taken, takes.taken);
        left = omega (arith, g.left, takes.left);
        held = ap (λ z. fed step z ys) takes.held ∙ sym (fed_append step a.held xs ys) ∙ g.held;
      }

-- A number's digits are those above its last b digits, and then those.
pub digits_parts : (n a b : ℕ) → n < 10 ^ (a + b) → digits 1 n (a + b) (a + b) ≡ digits 1 (n / 10 ^ b) a a ++ digits 1 (n % 10 ^ b) b b
digits_parts n zero b below =
    let small : n < 10 ^ b = rw (zero-add b) at below in
    rw (zero-add b) (ap (λ z. digits 1 z b b) (sym (mod-eq_of_lt small)))
digits_parts n (suc a) b below =
    let unit : 10 ^ (a + b) * 1 ≡ 10 ^ a * 10 ^ b = mul-one (10 ^ (a + b)) ∙ pow-add 10 a b in
    let m = n % (10 ^ (a + b) * 1) in
    let near : m < 10 ^ (a + b) = omega (arith, mod-lt n {m = 10 ^ (a + b) * 1} (omega (arith, mul-one (10 ^ (a + b)), ten_pos (a + b))), mul-one (10 ^ (a + b))) in
    let high : m / 10 ^ b ≡ n / 10 ^ b % (10 ^ a * 1) = ap (λ u. n % u / 10 ^ b) unit ∙ quotient_left (10 ^ b) (ten_pos b) n a in
    let low : m % 10 ^ b ≡ n % 10 ^ b = ap (λ u. n % u % 10 ^ b) unit ∙ remainder_left (10 ^ b) (ten_pos b) n a in
    let first : n / (10 ^ (a + b) * 1) ≡ n / 10 ^ b / (10 ^ a * 1) = ap (λ u. n / u) unit ∙ digit_over (10 ^ b) (ten_pos b) n a in
    let others : digits 1 m (a + b) (a + b) ≡ digits 1 (n / 10 ^ b % (10 ^ a * 1)) a a ++ digits 1 (n % 10 ^ b) b b =
    digits_parts m a b near ∙ ap (λ z. digits 1 z a a ++ digits 1 (m % 10 ^ b) b b) high ∙ ap (λ z. digits 1 (n / 10 ^ b % (10 ^ a * 1)) a a ++ digits 1 z b b) low in
    rw (suc-add a b) (ap (λ z. z ∷ digits 1 m (a + b) (a + b)) first ∙ ap (λ ds. n / 10 ^ b / (10 ^ a * 1) ∷ ds) others)

parts_small : (n a b : ℕ) → n < 10 ^ (a + b) → n / 10 ^ b < 10 ^ a
parts_small n a b below = (div-lt_iff_lt-mul {k = 10 ^ b} {x = n} {y = 10 ^ a} (ten_pos b)).1 (rw (pow-add 10 a b) at below)

-- The digits above g groups of four.
above_count : (c g : ℕ) → 4 * g ≤ c → c ≡ (c - 4 * g) + 4 * g
above_count c g some = omega arith

pub above_small : (n c g : ℕ) → 4 * g ≤ c → n < 10 ^ c → n / 10 ^ (4 * g) < 10 ^ (c - 4 * g)
above_small n c g some below =
    let e = above_count c g some in
    let small : n < 10 ^ ((c - 4 * g) + 4 * g) = rw (sym e) below in
    parts_small n (c - 4 * g) (4 * g) small

pub above_below : (n c g : ℕ) → 4 * g ≤ c → c - 4 * g ≤ 4 → n < 10 ^ c → n / 10 ^ (4 * g) < 10000
above_below n c g some few below =
    let most : 10 ^ (c - 4 * g) ≤ 10 ^ 4 = pow-le-pow_right (lit< tt) few in
    omega (arith, above_small n c g some below)

-- The highest of g groups.
groups_less : (g : ℕ) → 0 < g → 4 * g ≡ 4 + 4 * (g - 1)
groups_less g some = omega arith

pub group_small : (n g : ℕ) → 0 < g → n < 10 ^ (4 * g) → n / 10 ^ (4 * (g - 1)) < 10000
group_small n g some below = parts_small n 4 (4 * (g - 1)) (rw (groups_less g some) at below)

pub group_less : (step : ℕ → ℕ → ℕ) (a₀ : Tally) (zs : List ℕ) (n g q r : ℕ) (a b : Tally) → 0 < g → n < 10 ^ (4 * g)
    → q ≡ n / 10 ^ (4 * (g - 1)) → r ≡ n % 10 ^ (4 * (g - 1)) → Took step a (digits 1 q 4 4) b
    → Remain step a₀ zs a (digits 1 n (4 * g) (4 * g)) → Remain step a₀ zs b (digits 1 r (4 * (g - 1)) (4 * (g - 1)))
group_less step a₀ zs n g q r a b some below eq er takes remain =
    let low = 4 * (g - 1) in
    let e : 4 * g ≡ 4 + low = groups_less g some in
    let parts : digits 1 n (4 * g) (4 * g) ≡ digits 1 q 4 4 ++ digits 1 r low low =
    ap (λ k. digits 1 n k k) e ∙ digits_parts n 4 low (rw e at below) ∙ ap (λ z. digits 1 z 4 4 ++ digits 1 (n % 10 ^ low) low low) (sym eq) ∙ ap (λ z. digits 1 q 4 4 ++ digits 1 z low low) (sym er) in
    remain_less step a₀ zs a (digits 1 q 4 4) (digits 1 r low low) b takes (rw parts at remain)

pub groups_done : (step : ℕ → ℕ → ℕ) (a₀ : Tally) (zs : List ℕ) (n g : ℕ) (a : Tally) → g ≤ 0
    → Remain step a₀ zs a (digits 1 n (4 * g) (4 * g)) → Took step a₀ zs a
groups_done step a₀ zs n g a none remain =
    let e : 4 * g ≡ 0 = omega arith in
    remain_none step a₀ zs a (rw e at remain)

-- The digits above the groups, and then the groups.
pub takes_parts : (step : ℕ → ℕ → ℕ) (n k g q r : ℕ) (a b c : Tally) → 4 * g ≤ k → n < 10 ^ k → q ≡ n / 10 ^ (4 * g) → r ≡ n % 10 ^ (4 * g)
    → Took step a (digits 1 q (k - 4 * g) (k - 4 * g)) b → Took step b (digits 1 r (4 * g) (4 * g)) c → Took step a (digits 1 n k k) c
takes_parts step n k g q r a b c some below eq er first second =
    let high = k - 4 * g in
    let low = 4 * g in
    let e : k ≡ high + low = above_count k g some in
    let small : n < 10 ^ (high + low) = rw (sym e) below in
    let parts : digits 1 n k k ≡ digits 1 q high high ++ digits 1 r low low =
    ap (λ k. digits 1 n k k) e ∙ digits_parts n high low small ∙ ap (λ z. digits 1 z high high ++ digits 1 (n % 10 ^ low) low low) (sym eq) ∙ ap (λ z. digits 1 q high high ++ digits 1 z low low) (sym er) in
    rw parts (takes_join step a (digits 1 q high high) b (digits 1 r low low) c first second)
