-- Euclid's algorithm keeps the common divisors.
use Rattle.std.proofs.Common.{◌≡◌, ℕ, ◌+◌, ◌*◌, ◌/◌, ◌%◌, sym, subst, div-add-mod', arith}
use Prim.Native.Nat.{◌∣◌}
use native.Mathlib.Nat.{dvd_refl, dvd-zero, dvd-add, dvd-add_iff_right, dvd-mul_left_of_dvd}
use Rattle.generic.specs.Divisors.{GreatestDivisor}

-- x and y have the common divisors of a and b
pub record SameDivisors (x y a b : ℕ) : Type 0 where
  pub back : (e : ℕ) → e ∣ x → e ∣ y → (e ∣ a) × (e ∣ b)
  pub forth : (e : ℕ) → e ∣ a → e ∣ b → (e ∣ x) × (e ∣ y)

-- one division with remainder
pub same_more : (x y a b r : ℕ) → r ≡ x % y → SameDivisors x y a b → SameDivisors y r a b
same_more x y a b r rest same =
    let q : ℕ = x / y in
    let split : x ≡ q * y + r = omega (arith, div-add-mod' x y, rest) in
    record {
      back = λ e p s. same.back e (subst (λ n. e ∣ n) (sym split) (dvd-add e (dvd-mul_left_of_dvd e p q) s)) p;
      forth = λ e p s.
          let both = same.forth e p s in
          (both.1, (dvd-add_iff_right e {m = q * y} {n = r} (dvd-mul_left_of_dvd e both.1 q)).1 (subst (λ n. e ∣ n) split both.0));
    }

pub same_end : (x a b : ℕ) → SameDivisors x 0 a b → GreatestDivisor x a b
same_end x a b same =
    let both = same.back x (dvd_refl x) (dvd-zero x) in
    record { left = both.0; right = both.1; greatest = λ e p s. (same.forth e p s).0 }
