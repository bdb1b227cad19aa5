-- Dividing by the greatest common divisor gives the lowest terms.
use Rattle.std.proofs.Common.{◌≡◌, ℕ, zero, suc, ◌*◌, ◌/◌, ◌<◌, refl, sym, ap, ◌∙◌, subst, mul_assoc, mul_comm, Some, None, Option, one-mul, zero-mul, arith}
use Prim.Native.Nat.{◌∣◌}
use native.Mathlib.Nat.{one-dvd, dvd_of_mul-dvd-mul_right, mul-dvd-mul_right, pos_of_dvd_of_pos, div-mul_cancel, zero-div}
use Rattle.generic.specs.Divisors.{GreatestDivisor}
use Rattle.fraction.specs.Lowest.{Lowest}
use Rattle.fraction.specs.Ratios.{Keeps, Reduced}
use Rattle.fraction.specs.declared.ratio.Ratio.{Ratio}

factor_positive : (a g d : ℕ) → a * g ≡ d → 0 < d → 0 < a
factor_positive zero g d e h = omega (arith, zero-mul g)
factor_positive (suc a) g d e h = omega arith

-- a, b and g stand for n / g, d / g and g
parts_lowest : (n d a b g : ℕ) → a * g ≡ n → b * g ≡ d → 0 < d → GreatestDivisor g n d → Lowest n d a b
parts_lowest n d a b g en ed h common =
    record {
      positive = factor_positive b g d ed h;
      same =
          ap (λ x. a * x) (sym ed ∙ mul_comm b g) ∙ sym (mul_assoc a g b) ∙ ap (λ x. x * b) en;
      reduced = record {
        left = one-dvd a;
        right = one-dvd b;
        greatest = λ e p q.
            let both : e * g ∣ g =
            common.greatest (e * g)
            (subst (λ x. e * g ∣ x) en (mul-dvd-mul_right e p g))
            (subst (λ x. e * g ∣ x) ed (mul-dvd-mul_right e q g)) in
            dvd_of_mul-dvd-mul_right {k = g} e {n = 1} (pos_of_dvd_of_pos common.right h) (subst (λ x. e * g ∣ x) (sym (one-mul g)) both);
      };
    }

pub quotients_lowest : (n d g : ℕ) → 0 < d → GreatestDivisor g n d → Lowest n d (n / g) (d / g)
quotients_lowest n d g h common =
    parts_lowest n d (n / g) (d / g) g (div-mul_cancel g common.left) (div-mul_cancel g common.right) h common

nothing_left : (d g : ℕ) → g ∣ d → d / g ≡ 0 → d ≡ 0
nothing_left d g p e = sym (div-mul_cancel g p) ∙ ap (λ x. x * g) e ∙ zero-mul g

-- 0 divides nothing but 0
pub nothing_divides : (d g : ℕ) → g ∣ d → (0 < g → ⊥) → d ≡ 0
nothing_divides zero g p none = refl
nothing_divides (suc d) g p none = absurd (none (pos_of_dvd_of_pos p (omega arith)))

something_was : (d g : ℕ) → 0 < d / g → 0 < d
something_was zero g h = absurd (omega (arith, zero-div g))
something_was (suc d) g h = omega arith

-- a and b are n and d over their greatest common divisor
pub reduces : {X : Type 0} (number : X → ℕ) (n d a b : X) (g : ℕ) → GreatestDivisor g (number n) (number d) → number a ≡ number n / g → number b ≡ number d / g → (r : Option (Ratio X)) → Keeps number a b r → Reduced number n d r
reduces number n d a b g common ea eb None k = nothing_left (number d) g common.right (sym eb ∙ k)
reduces number n d a b g common ea eb (Some r) k =
    let some : 0 < number d = something_was (number d) g (subst (λ x. 0 < x) eb k.0) in
    (some, simp (k.1, k.2, ea, eb) (quotients_lowest (number n) (number d) g some common))
