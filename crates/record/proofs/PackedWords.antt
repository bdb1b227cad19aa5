-- What a word of packed digits comes to, from whether each is a decimal digit.
use Rattle.std.proofs.Common.{◌≡◌, ℕ, Ok, Err, inl, inr}
use Rattle.packed.specs.Digits.{AllDigits, decimal}
use Rattle.packed.proofs.Tests.{digits_test}
use Rattle.record.specs.declared.fault.InputFault.TheVariants.{NotDecimal}
use Rattle.record.specs.Numbers.{packed_number}

pub packed_number_lem : (w : ℕ) → AllDigits 16 w → packed_number w ≡ Ok (decimal 16 w)
packed_number_lem w all = elim (digits_test 16 w) [ inl test ↦ rw test.0 | inr none ↦ absurd (none.1 all) ]

pub no_packed_number : (w : ℕ) → (AllDigits 16 w → ⊥) → packed_number w ≡ Err NotDecimal
no_packed_number w none = elim (digits_test 16 w) [ inl all ↦ absurd (none all.1) | inr test ↦ rw test.0 ]
