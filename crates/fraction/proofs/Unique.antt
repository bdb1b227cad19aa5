-- A fraction has one form in lowest terms, so what is made of a sign and two numbers is fixed.
use Rattle.std.proofs.Common.{◌≡◌, ℕ, zero, suc, ◌+◌, ◌*◌, ◌/◌, ◌%◌, ◌<◌, sym, refl, ap, ◌∙◌, subst, mod-lt, mul_assoc, add-mul, one-mul, div-add-mod', mul_right_comm, arith}
use Prim.Native.Nat.{◌∣◌}
use native.Mathlib.Nat.{dvd_refl, dvd-zero, dvd-add, dvd-add_iff_right, dvd-mul_left, dvd-mul_right, dvd-mul_left_of_dvd, dvd_antisymm, eq-one_of_dvd-one, eq_of_mul-eq-mul_right}
use Rattle.generic.specs.Divisors.{GreatestDivisor}
use Rattle.generic.specs.declared.sign.Sign.{Sign}
use Rattle.fraction.specs.Lowest.{Lowest}
use Rattle.fraction.specs.Made.{Made, Only}
use Rattle.fraction.specs.Meaning.{Meaning, rational, infinity, nan}

-- a divisor of x and y such that what divides c times both divides c times it
record Scaled (x y : ℕ) : Type 0 where
  g : ℕ
  left : g ∣ x
  right : g ∣ y
  scaled : (e c : ℕ) → e ∣ x * c → e ∣ y * c → e ∣ g * c

step : (x y q r : ℕ) → x ≡ q * y + r → Scaled y r → Scaled x y
step x y q r split s =
    record {
      g = s.g;
      left = subst (λ z. s.g ∣ z) (sym split) (dvd-add s.g (dvd-mul_left_of_dvd s.g s.left q) s.right);
      right = s.left;
      scaled = λ e c p h.
          let spread : x * c ≡ q * (y * c) + r * c =
          ap (λ z. z * c) split ∙ add-mul (q * y) r c ∙ ap (λ z. z + r * c) (mul_assoc q y c) in
          s.scaled e c h ((dvd-add_iff_right e {m = q * (y * c)} {n = r * c} (dvd-mul_left_of_dvd e h q)).1 (subst (λ z. e ∣ z) spread p));
    }

scaled_by : (fuel x y : ℕ) → y < fuel → Scaled x y
scaled_by zero x y h = absurd (omega arith)
scaled_by (suc f) x zero h = record { g = x; left = dvd_refl x; right = dvd-zero x; scaled = λ e c p q. p }
scaled_by (suc f) x (suc y) h =
    let less : x % suc y < suc y = mod-lt x (omega arith) in
    step x (suc y) (x / suc y) (x % suc y) (sym (div-add-mod' x (suc y))) (scaled_by f (suc y) (x % suc y) (omega arith))

-- b divides a times c and has no divisor but 1 with a
divides_other : (a b c : ℕ) → GreatestDivisor 1 a b → b ∣ a * c → b ∣ c
divides_other a b c apart p =
    let s : Scaled a b = scaled_by (suc b) a b (omega arith) in
    let one : s.g ≡ 1 = eq-one_of_dvd-one (apart.greatest s.g s.left s.right) in
    subst (λ z. b ∣ z) (ap (λ z. z * c) one ∙ one-mul c) (s.scaled b c p (dvd-mul_right b c))

crossed : (n d a b a' b' : ℕ) → 0 < d → a * d ≡ n * b → a' * d ≡ n * b' → a * b' ≡ a' * b
crossed n d a b a' b' h e e' =
    eq_of_mul-eq-mul_right d h (a * b') (a' * b)
    (mul_right_comm a b' d ∙ ap (λ z. z * b') e ∙ mul_right_comm n b b' ∙ ap (λ z. z * b) (sym e') ∙ mul_right_comm a' d b)

below_divides : (n d a b a' b' : ℕ) → 0 < d → Lowest n d a b → Lowest n d a' b' → b ∣ b'
below_divides n d a b a' b' h l l' =
    divides_other a b b' l.reduced (subst (λ z. b ∣ z) (sym (crossed n d a b a' b' h l.same l'.same)) (dvd-mul_left b a'))

below_same : (n d a b a' b' : ℕ) → 0 < d → Lowest n d a b → Lowest n d a' b' → b ≡ b'
below_same n d a b a' b' h l l' =
    dvd_antisymm (below_divides n d a b a' b' h l l') (below_divides n d a' b' a b h l' l)

above_same : (n d a b a' b' : ℕ) → 0 < d → Lowest n d a b → Lowest n d a' b' → a ≡ a'
above_same n d a b a' b' h l l' =
    eq_of_mul-eq-mul_right b l.positive a a'
    (ap (λ z. a * z) (below_same n d a b a' b' h l l') ∙ crossed n d a b a' b' h l.same l'.same)

pub made_only : (s : Sign) (n d : ℕ) (m : Meaning) → Made s n d m → Only s n d m
made_only s n d (rational s1 a b) h (rational s2 a' b') h' =
    let es : s2 ≡ s1 = h'.1 ∙ sym h.1 in
    let ea : a' ≡ a = above_same n d a' b' a b h.0 h'.2 h.2 in
    let eb : b' ≡ b = below_same n d a' b' a b h.0 h'.2 h.2 in
    cc
made_only s n d (rational s1 a b) h (infinity s2) h' = absurd (omega (arith, h.0, h'.0))
made_only s n d (rational s1 a b) h nan h' = absurd (omega (arith, h.0, h'.0))
made_only s n d (infinity s1) h (rational s2 a' b') h' = absurd (omega (arith, h.0, h'.0))
made_only s n d (infinity s1) h (infinity s2) h' = ap infinity (h'.2 ∙ sym h.2)
made_only s n d (infinity s1) h nan h' = absurd (omega (arith, h.1, h'.1))
made_only s n d nan h (rational s2 a' b') h' = absurd (omega (arith, h.0, h'.0))
made_only s n d nan h (infinity s2) h' = absurd (omega (arith, h.1, h'.1))
made_only s n d nan h nan h' = refl
