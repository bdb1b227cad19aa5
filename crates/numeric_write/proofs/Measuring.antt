-- What a package takes of a fraction, case by case.
use Rattle.std.proofs.Common.{◌≡◌, ℕ, zero, suc, ◌+◌, ◌-◌, ◌*◌, ◌/◌, ◌%◌, ◌^◌, ◌<◌, ◌≤◌, Bool, true, false, length, ℤ, pos, negsuc, ◌-ℤ◌, sym, refl, ap, ◌∙◌, subst, ⊎_elim, mul-le-mul_right, mod-eq_of_lt, mul_assoc, div-lt_iff_lt-mul, mul-le-mul_left, one-mul, div-add-mod', le-div_iff_mul-le, mul-one, mul-div_cancel, div-one, add-one, arith, w16, to_z, of_z}
use native.Mathlib.Nat.{pow-succ', pow-le-pow_right, one-le-pow, mul-mod_left}
use Rattle.std.proofs.lemmas.Int.{ints}
use Rattle.std.proofs.lemmas.Bool.{cases_lt}
use Rattle.division.specs.Expansion.{coming}
use Rattle.division.specs.Whole.{Width}
use Rattle.division.proofs.Decimals.{lesser}
use Rattle.numeric.specs.Cut.{cut, scale_of}
use Rattle.numeric.specs.Package.{fours, groups_of, weight_of}
use Rattle.numeric.proofs.Measure.{before, below_none, below_some, mixed, whole}
use Rattle.numeric_write.specs.Measure.{Shaped, Sized, Ending}
use Rattle.numeric_write.specs.declared.shape.Shape.{Shape}
use Rattle.numeric_write.specs.declared.shape.Shape.TheVariants.{Below, Mixed, Whole}

-- BELOW 1, with z zeros before the first other digit

passes : (n d z : ℕ) → n < d → Width (d - 1) n (suc z) → n * 10 ^ (z - z % 4) < d
passes n d z lt is =
    let small : 10 ^ (z - z % 4) ≤ 10 ^ z = pow-le-pow_right (omega arith) (omega arith) in
    omega (arith, mul-le-mul_left n small, before n d z lt is)

pub sized_none : (n d s z w : ℕ) → 0 < n → n < d → Width (d - 1) n (suc z) → s ≤ z → Sized n d w s (Below (z - z % 4)) 0 (negsuc (s / 4))
sized_none n d s z w some lt is le =
    let m = below_none n d s z some lt is le in
    record {
      groups_are = sym (ap length m.0);
      weight_is = sym m.1;
      shaped = (lt, omega arith, passes n d z lt is, λ h. absurd (omega arith));
    }

pub sized_some : (n d s z w : ℕ) → 0 < n → n < d → Width (d - 1) n (suc z) → z < s → Sized n d w s (Below (z - z % 4)) (fours s - z / 4) (negsuc (z / 4))
sized_some n d s z w some lt is more =
    let m = below_some n d s z some lt is more in
    record {
      groups_are = omega (arith, m.0);
      weight_is = sym m.1;
      shaped = (lt, omega arith, passes n d z lt is, λ h. (omega arith, omega (arith, m.0)));
    }

-- ABOVE 1

pub sized_mixed : (n d s w : ℕ) → 0 < d → (n / d ≡ 0 → ⊥) → d ≤ n → Width n d w → 0 < s → Sized n d w s Mixed (fours w + fours s) (pos (fours w - 1))
sized_mixed n d s w h nz le is some =
    let m = mixed n d s w h nz is some in
    record { groups_are = sym m.0; weight_is = sym m.1; shaped = (le, some, refl) }

-- A WHOLE NUMBER x OF w DIGITS

-- the zero groups at the end, by the number that stands before them
pub ending_by : (x front t : ℕ) → front * 10000 ^ t ≡ x → (front % 10000 ≡ 0 → ⊥) → Ending x t
ending_by x front t is last =
    let h : 0 < 10000 ^ t = one-le-pow t 10000 (omega arith) in (
      ap (λ y. y % 10000 ^ t) (sym is) ∙ mul-mod_left front (10000 ^ t),
      λ z. last (ap (λ y. y % 10000) (sym (mul-div_cancel front h) ∙ ap (λ y. y / 10000 ^ t) is) ∙ z),
    )

pub front_is : (x t : ℕ) → Ending x t → x / 10000 ^ t * 10000 ^ t ≡ x
front_is x t e = omega (arith, div-add-mod' x (10000 ^ t), e.0)

pub whole_fits : (x w t : ℕ) → Width x 1 w → Ending x t → t ≤ fours w
whole_fits x w t is e = omega (arith, (whole x 1 w t (x / 10000 ^ t) (omega arith) is (front_is x t e ∙ sym (div-one x)) e.1).0)

pub sized_whole : (x w t : ℕ) → 0 < x → Width x 1 w → Ending x t → Sized x 1 w 0 (Whole t) (fours w - t) (pos (fours w - 1))
sized_whole x w t some is e =
    let m = whole x 1 w t (x / 10000 ^ t) (omega arith) is (front_is x t e ∙ sym (div-one x)) e.1 in
    record {
      groups_are = omega (arith, m.0);
      weight_is = sym m.1;
      shaped = (omega arith, refl, omega (arith, m.0), m.2, subst (λ y. Ending y t) (sym (div-one x)) e);
    }

-- the whole part as a number of its own
pub width_quotient : (n d w : ℕ) → 0 < d → Width n d w → Width (n / d) 1 w
width_quotient n d w h is = record {
  some = is.some;
  enough = subst (λ x. n / d < x) (sym (mul-one (10 ^ w))) ((div-lt_iff_lt-mul h).1 is.enough);
  no_zero = λ lt. subst (λ x. x ≤ n / d) (sym (mul-one (10 ^ (w - 1)))) ((le-div_iff_mul-le h).1 (is.no_zero lt));
}

shaped_quotient : (n d w g : ℕ) (shape : Shape) → d ≤ n → 0 < n / d → Shaped (n / d) 1 w 0 g shape → Shaped n d w 0 g shape
shaped_quotient n d w g (Below passed) le some s = absurd (omega (arith, s.0))
shaped_quotient n d w g Mixed le some s = absurd (omega (arith, s.1))
shaped_quotient n d w g (Whole t) le some s = (le, refl, s.2, s.3, subst (λ y. Ending y t) (div-one (n / d)) s.4)

pub sized_quotient : (n d w g : ℕ) (shape : Shape) (weight : ℤ) → d ≤ n → 0 < n / d → Sized (n / d) 1 w 0 shape g weight → Sized n d w 0 shape g weight
sized_quotient n d w g shape weight le some s =
    let same : cut (n / d) 1 0 ≡ cut n d 0 = ap (λ x. x / 1) (mul-one (n / d)) ∙ div-one (n / d) ∙ sym (ap (λ x. x / d) (mul-one n)) in
    record {
      groups_are = s.groups_are ∙ ap (λ q. length (groups_of q 0)) same;
      weight_is = s.weight_is ∙ ap (λ q. weight_of q 0) same;
      shaped = shaped_quotient n d w g shape le some s.shaped;
    }

-- THE SCALE

pub scale_from : (n d p r s : ℕ) → r ≡ n % d → s ≡ coming d r p → s ≡ scale_of n d p
unfolding scale_of
scale_from n d p r s e is = is ∙ ap (λ x. coming d x p) e

pub scale_some : (d r p : ℕ) → 0 < r → 0 < p → 0 < coming d r p
scale_some d r zero h q = absurd (omega arith)
scale_some d zero (suc p) h q = absurd (omega arith)
scale_some d (suc r) (suc p) h q = omega arith

pub scale_within : (d r p : ℕ) → coming d r p ≤ p
scale_within d r p = (lesser d r p).0

-- ZERO GROUPS AT THE END

-- no more than four, in a number below 2^64
pub few_zeros : (x r t : ℕ) → x < 2 ^ 64 → 0 < r → r * 10000 ^ t ≡ x → t < 5
few_zeros x r t small some is = ⊎_elim
    (λ lt. lt)
    (λ le.
    let big : 10000 ^ 5 ≤ 10000 ^ t = pow-le-pow_right (omega arith) le in
    let more : 1 * 10000 ^ t ≤ r * 10000 ^ t = mul-le-mul_right (10000 ^ t) some in
    absurd (omega (arith, one-mul (10000 ^ t))))
    (cases_lt t 5)

-- one more of them
pub zeros_more : (x r t : ℕ) → r % 10000 ≡ 0 → r * 10000 ^ t ≡ x → r / 10000 * 10000 ^ (t + 1) ≡ x
zeros_more x r t z is =
    let whole_part : r / 10000 * 10000 ≡ r = omega (arith, div-add-mod' r 10000) in
    ap (λ k. r / 10000 * 10000 ^ k) (add-one t)
    ∙ ap (λ k. r / 10000 * k) (pow-succ' 10000 t)
    ∙ sym (mul_assoc (r / 10000) 10000 (10000 ^ t))
    ∙ ap (λ k. k * 10000 ^ t) whole_part
    ∙ is

-- SIGNED WORDS, and a test

pub below_bits : (k : ℕ) → k < 5000 → to_z w16 (of_z w16 (negsuc k)) ≡ negsuc k
below_bits k h = omega (arith, ints)

pub above_bits : (k : ℕ) → 0 < k → k < 5000 → to_z w16 (of_z w16 (to_z w16 k -ℤ pos 1)) ≡ pos (k - 1)
above_bits k h l = omega (arith, ints)

pub apart : (b : Bool) → b ≡ true → b ≡ false → ⊥
apart b t f = let none : ◌≡◌ {A = ℕ} 0 1 = cc in omega arith

-- THE WHOLE PART

pub below_is : (n d : ℕ) → 0 < d → n / d ≡ 0 → n < d
below_is n d h z = omega (arith, one-mul d, (div-lt_iff_lt-mul {x = n} {y = 1} h).0 (omega arith))

pub below_rest : (n d : ℕ) → n < d → n % d ≡ n
below_rest n d lt = mod-eq_of_lt lt

pub above_is : (n d : ℕ) → 0 < d → 0 < n / d → d ≤ n
above_is n d h some = omega (arith, one-mul d, (le-div_iff_mul-le {x = 1} {y = n} h).0 some)

pub sized_as : (n d w s : ℕ) (shape : Shape) (scale groups : ℕ) (weight : ℤ)
    → (shape ≡ Mixed) × (scale ≡ s) × (groups ≡ fours w + fours s) × (weight ≡ pos (fours w - 1))
    → Sized n d w s Mixed (fours w + fours s) (pos (fours w - 1)) → Sized n d w scale shape groups weight
sized_as n d w s shape scale groups weight (a, b, c, e) z = rw (a, b, c, e) z
