-- What the digits of a word come to.
use Rattle.std.specs.Prelude.{◌≡◌, ℕ, zero, suc, ◌+◌, ◌-◌, ◌*◌, ◌/◌, ◌%◌, ◌^◌, ◌<◌, ◌≤◌, ◌⊎◌, refl}
use Rattle.std.specs.declared.cmp.Ordering.TheVariants.{Less, Equal, Greater}
use Rattle.std.specs.declared.cmp.Ordering.{Ordering}
use Rattle.std.proofs.Common.{sym, ap, ◌∙◌, inl, inr, mod-eq_of_lt, mul-le-mul_right, add-mul, mul_assoc, arith}
use Rattle.std.proofs.Math.Nat.{add-mul-div_right, add-mul-mod_self_right}
use Rattle.std.proofs.lemmas.Nat.{pow_pos, pow-add, mod-pow-add, mod_below}
use Rattle.std.proofs.lemmas.Bool.Decides.{leb_tells}
use Rattle.std.specs.Ordering.{MatchOrdering}
use Rattle.packed.specs.Digits.{nibble, AllDigits, decimal}
use Rattle.packed.specs.Decimals.{decimal_lt}

-- a number is written by its digits alone
pub decimal_same : (k v w : ℕ) → ((i : ℕ) → i < k → nibble v i ≡ nibble w i) → decimal k v ≡ decimal k w
unfolding decimal
decimal_same zero v w e = refl
decimal_same (suc k) v w e =
    let low : decimal k v ≡ decimal k w = decimal_same k v w (λ i h. e i (omega arith)) in
    let top : nibble v k ≡ nibble w k = e k (omega arith) in
    cc

-- what is put at place k leaves the digits below it
pub nibble_low : (k w d i : ℕ) → i < k → nibble (w + d * 2 ^ (4 * k)) i ≡ nibble w i
nibble_low k w d i below =
    let m : ℕ = k - suc i in
    let split : 2 ^ (4 * k) ≡ 2 ^ (4 * m) * 16 * 2 ^ (4 * i) =
    ap (λ e. 2 ^ e) (omega arith) ∙ pow-add 2 (4 * m + 4) (4 * i) ∙ ap (λ e. e * 2 ^ (4 * i)) (pow-add 2 (4 * m) 4) in
    let moved : w + d * 2 ^ (4 * k) ≡ w + d * 2 ^ (4 * m) * 16 * 2 ^ (4 * i) =
    ap (λ e. w + e) (ap (λ e. d * e) split ∙ sym (mul_assoc d (2 ^ (4 * m) * 16) (2 ^ (4 * i))) ∙ ap (λ e. e * 2 ^ (4 * i)) (sym (mul_assoc d (2 ^ (4 * m)) 16))) in
    ap (λ e. nibble e i) moved ∙ ap (λ e. e % 16) (add-mul-div_right w (d * 2 ^ (4 * m) * 16) (pow_pos (4 * i))) ∙ add-mul-mod_self_right (w / 2 ^ (4 * i)) (d * 2 ^ (4 * m)) 16

le_or_lt : (a b : ℕ) → (a ≤ b) ⊎ (b < a)
le_or_lt a b = elim (leb_tells a b) [ inl h ↦ inl h.1 | inr h ↦ inr h.1 ]

-- two numbers by their leading parts x and y, and what follows these
by_parts : (p a b x y : ℕ) → b < p → x * p + a < y * p + b → (x < y) ⊎ ((x ≡ y) × (a < b))
by_parts p a b x y small h =
    elim (le_or_lt y x) [
      | inr less ↦ inl less
      | inl more ↦
          elim (le_or_lt x y) [
            | inl same ↦ let e : x ≡ y = omega arith in inr (e, omega (arith, ap (λ n. n * p) e))
            | inr above ↦ absurd (omega (arith, mul-le-mul_right p above, add-mul y 1 p))
          ]
    ]

-- the four bits at place k lead what stands below place k + 1
leads : (k w : ℕ) → w % 2 ^ (4 * suc k) ≡ nibble w k * 2 ^ (4 * k) + w % 2 ^ (4 * k)
leads k w = ap (λ e. w % 2 ^ e) (omega arith) ∙ mod-pow-add w 4 (4 * k)

-- of two words with the same number of digits, the lesser writes the lesser number
pub decimal_order : (k v w : ℕ) → AllDigits k v → AllDigits k w → v % 2 ^ (4 * k) < w % 2 ^ (4 * k) → decimal k v < decimal k w
unfolding decimal
decimal_order zero v w dv dw h = omega arith
decimal_order (suc k) v w dv dw h =
    let low_v : AllDigits k v = λ i below. dv i (omega arith) in
    let low_w : AllDigits k w = λ i below. dw i (omega arith) in
    elim (by_parts (2 ^ (4 * k)) (v % 2 ^ (4 * k)) (w % 2 ^ (4 * k)) (nibble v k) (nibble w k) (mod_below w (2 ^ (4 * k)) (pow_pos (4 * k))) (omega (arith, leads k v, leads k w))) [
      | inl less ↦ omega (arith, decimal_lt k v low_v, mul-le-mul_right (10 ^ k) less, add-mul (nibble v k) 1 (10 ^ k))
      | inr same ↦ omega (arith, decimal_order k v w low_v low_w same.1, ap (λ n. n * 10 ^ k) same.0)
    ]

pub decimal_none : (w : ℕ) → decimal 0 w ≡ 0
unfolding decimal
decimal_none w = refl

-- two words of sixteen digits stand in the order of their numbers
pub decimal_ranked : (o : Ordering) (v w : ℕ) → AllDigits 16 v → AllDigits 16 w → v < 2 ^ 64 → w < 2 ^ 64 → MatchOrdering o (v < w) (v ≡ w) (w < v) → MatchOrdering o (decimal 16 v < decimal 16 w) (decimal 16 v ≡ decimal 16 w) (decimal 16 w < decimal 16 v)
decimal_ranked Less v w dv dw hv hw h = decimal_order 16 v w dv dw (rw (mod-eq_of_lt hv, mod-eq_of_lt hw) h)
decimal_ranked Equal v w dv dw hv hw h = ap (decimal 16) h
decimal_ranked Greater v w dv dw hv hw h = decimal_order 16 w v dw dv (rw (mod-eq_of_lt hv, mod-eq_of_lt hw) h)
