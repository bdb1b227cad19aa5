-- Words of sixteen digits: sums, differences, tenfolds and order.
use Rattle.std.proofs.Common.{◌≡◌, ℕ, ◌+◌, ◌-◌, ◌*◌, ◌/◌, ◌%◌, ◌^◌, ◌<◌, ◌≤◌, eqb, Decides, sym, refl, ap, ◌∙◌, subst, inl, inr, mul-le-mul_right, mod-eq_of_lt, mul_comm, arith}
use lib.Bits.{bit_xor, and_le_r}
use Rattle.std.proofs.lemmas.Nat.{div-mul-add, mod-mul-add}
use Rattle.std.proofs.lemmas.Bool.{cases_lt, eqb-true, eq-eqb}
use Rattle.packed.specs.Digits.{AllDigits, decimal}
use Rattle.packed.proofs.Carries.{changed, whole, whole_sixteen, Added, added, Subtracted, subtracted}
use Rattle.packed.specs.Decimals.{decimal_lt}
use Rattle.packed.proofs.Decimals.{decimal_order}
use Rattle.packed.proofs.Lowest.{digits_cons, decimal_cons}

-- fifteen digits and a highest
all_sixteen : (w : ℕ) → AllDigits 15 w → w / 2 ^ 60 ≤ 9 → AllDigits 16 w
all_sixteen w low top i h =
    elim (cases_lt i 15) [ inl below ↦ low i below | inr last ↦ let here : i ≡ 15 = omega arith in rw here (omega arith) ]

pub highest : (w : ℕ) → AllDigits 16 w → w < 2 ^ 64 → w / 2 ^ 60 ≤ 9
highest w all small = omega (arith, all 15 (omega arith))

-- a highest digit counts at least 10 ^ 15 for each one of it
at_least : (w : ℕ) → w / 2 ^ 60 * 10 ^ 15 ≤ whole 15 w
unfolding whole
at_least w = omega arith

module _ (a b : ℕ) (da : AllDigits 16 a) (db : AllDigits 16 b) (ha : a < 2 ^ 64) (hb : b < 2 ^ 64) where
  low_a : AllDigits 15 a
  low_a i h = da i (omega arith)

  low_b : AllDigits 15 b
  low_b i h = db i (omega arith)

  -- t is the sum of the words with 6 more in each digit but the highest
  module _ (t : ℕ) (is : t ≡ a + 0x0666666666666666 + b) where
    -- where digits carried
    abbrev pub carried : ℕ
    carried = changed 15 (a + 0x0666666666666666) b t

    abbrev pub sum_word : ℕ
    sum_word = t - (0x0666666666666666 - 6 * carried)

    carried_le : carried ≤ 0x0111111111111111
    unfolding changed
    carried_le = and_le_r (bit_xor (bit_xor (a + 0x0666666666666666) b) t / 16) 0x0111111111111111

    sum_all : Added 15 a b 0 sum_word t
    sum_all =
        let all = added 15 a b 0 low_a low_b (omega arith) in
        let same : a + 0x0666666666666666 + b + 0 ≡ t = omega arith in
        let by_words : Added 15 a b 0 (a + b + 0 + 6 * carried) t = subst (λ u. Added 15 a b 0 (a + b + 0 + 6 * changed 15 (a + 0x0666666666666666) b u) u) same all in
        subst (λ x. Added 15 a b 0 x t) (omega (arith, carried_le)) by_words

    pub sum_passes : 9 < t / 2 ^ 60 → 9999999999999999 < decimal 16 a + decimal 16 b
    sum_passes top = omega (arith, at_least sum_word, sum_all.top, sum_all.value, whole_sixteen a ha, whole_sixteen b hb)

    module _ (top : t / 2 ^ 60 ≤ 9) where
      pub sum_digits : AllDigits 16 sum_word
      sum_digits = all_sixteen sum_word sum_all.digits (omega (arith, sum_all.top))

      pub sum_value : decimal 16 sum_word ≡ decimal 16 a + decimal 16 b
      sum_value =
          omega (arith, sum_all.value, whole_sixteen sum_word (omega (arith, sum_all.top)), whole_sixteen a ha, whole_sixteen b hb)

      pub sum_fits : decimal 16 a + decimal 16 b ≤ 9999999999999999
      sum_fits = omega (arith, sum_value, decimal_lt 16 sum_word sum_digits)

  -- t is the difference of the words
  module _ (t : ℕ) (is : t ≡ a - b) (le : b ≤ a) where
    -- where digits borrowed
    abbrev pub borrowed : ℕ
    borrowed = changed 15 a b t

    abbrev pub difference_word : ℕ
    difference_word = t - 6 * borrowed

    difference_all : Subtracted 15 a b 0 difference_word t borrowed
    difference_all =
        let same : a - (b + 0) ≡ t = omega arith in
        subst (λ u. Subtracted 15 a b 0 (u - 6 * changed 15 a b u) u (changed 15 a b u)) same (subtracted 15 a b 0 low_a low_b (omega arith) (omega arith))

    pub borrowed_fits : 6 * borrowed ≤ t
    borrowed_fits = omega (arith, difference_all.fits)

    pub difference_digits : AllDigits 16 difference_word
    difference_digits = all_sixteen difference_word difference_all.digits (omega (arith, highest a da ha))

    pub difference_value : decimal 16 difference_word + decimal 16 b ≡ decimal 16 a
    difference_value =
        omega (arith, difference_all.value, whole_sixteen difference_word (omega arith), whole_sixteen a ha, whole_sixteen b hb)

  pub lesser : a < b → decimal 16 a < decimal 16 b
  lesser h = decimal_order 16 a b da db (rw (mod-eq_of_lt ha, mod-eq_of_lt hb) h)

-- times ten moves each digit one place up
pub tenfold_digits : (w : ℕ) → AllDigits 16 w → w < 2 ^ 60 → AllDigits 16 (w * 16)
tenfold_digits w all small =
    digits_cons 15 (w * 16) (omega arith) (subst (AllDigits 15) {x = w} {y = w * 16 / 16} (omega arith) (λ i h. all i (omega arith)))

pub tenfold_value : (w : ℕ) → w < 2 ^ 60 → decimal 16 (w * 16) ≡ decimal 16 w * 10
unfolding whole
tenfold_value w small =
    let shifted : w * 16 / 16 ≡ w = omega arith in
    omega (arith, decimal_cons 15 (w * 16), ap (decimal 15) shifted, whole_sixteen w (omega arith))

pub tenfold_passes : (w : ℕ) → w < 2 ^ 64 → 2 ^ 60 ≤ w → 9999999999999999 < decimal 16 w * 10
tenfold_passes w small large = omega (arith, at_least w, whole_sixteen w small)

pub zero_sixteen : decimal 16 0 ≡ 0
unfolding decimal
zero_sixteen = refl

pub ten_sixteen : decimal 16 16 ≡ 10
unfolding decimal
ten_sixteen = refl

pub tells_zero : (w : ℕ) → AllDigits 16 w → w < 2 ^ 64 → Decides (eqb w 0) (decimal 16 w ≡ 0)
tells_zero w all small = (
  λ e. ap (decimal 16) (eqb-true w 0 e) ∙ zero_sixteen,
  λ none.
      elim (cases_lt 0 w) [
        | inl some ↦ absurd (omega (arith, lesser 0 w (λ i h. omega arith) all (omega arith) small some, zero_sixteen))
        | inr no_digit ↦ eq-eqb w 0 (omega arith)
      ],
)

-- one digit is its own word
zero_fifteen : decimal 15 0 ≡ 0
unfolding decimal
zero_fifteen = refl

pub digit_word : (d : ℕ) → d ≤ 9 → AllDigits 16 d × (decimal 16 d ≡ d)
digit_word d small =
    let above : d / 16 ≡ 0 = omega arith in (
      digits_cons 15 d (omega arith) (λ i h. rw above (omega arith)),
      omega (arith, decimal_cons 15 d, ap (decimal 15) above, zero_fifteen),
    )

-- a quotient and a remainder, by what they come to together
pub divided : (n d q r : ℕ) → r < d → q * d + r ≡ n → (q ≡ n / d) × (r ≡ n % d)
divided n d q r small sum = (
  sym (ap (λ x. x / d) (sym sum) ∙ div-mul-add q d r small),
  sym (ap (λ x. x % d) (sym sum) ∙ mod-mul-add q d r small),
)

-- what goes into fewer than ten times d goes in fewer than ten times
pub few : (n d t r : ℕ) → n < d * 10 → t * d + r ≡ n → t ≤ 9
few n d t r below sum =
    elim (cases_lt t 10) [ inl less ↦ omega arith | inr more ↦ absurd (omega (arith, mul-le-mul_right d more, mul_comm d 10)) ]
