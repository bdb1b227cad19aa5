-- The test of a word's digits decides whether each is a decimal digit.
use Rattle.std.proofs.Common.{◌≡◌, ℕ, zero, suc, ◌≤◌, true, false, ◌⊎◌, refl, inl, inr, arith, below_more}
use Rattle.std.proofs.lemmas.Bool.Decides.{leb_tells}
use Rattle.packed.specs.Digits.{nibble, AllDigits, all_digits}

pub digits_test : (k w : ℕ) → (all_digits k w ≡ true × AllDigits k w) ⊎ (all_digits k w ≡ false × (AllDigits k w → ⊥))
unfolding all_digits
digits_test zero w = inl (refl, λ i h. omega arith)
digits_test (suc k) w =
    elim (digits_test k w) [
      | inl low ↦
          elim (leb_tells (nibble w k) 9) [
            | inl top ↦ inl (rw (low.0, top.0), λ i h. below_more (λ j. nibble w j ≤ 9) k low.1 top.1 i (omega arith))
            | inr top ↦ inr (rw (low.0, top.0), λ all. let digit : nibble w k ≤ 9 = all k (omega arith) in omega arith)
          ]
      | inr low ↦ inr (rw low.0, λ all. low.1 (λ i h. all i (omega arith)))
    ]
