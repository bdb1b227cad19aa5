-- The number that a word of 64 bits writes in a type, or why it writes none.
use Rattle.std.specs.Prelude.{ℕ, cond, Ok, Err, Result, nat_le}
use Rattle.packed.specs.Digits.{all_digits, decimal}
use Rattle.record.specs.declared.fault.InputFault.{InputFault}
use Rattle.record.specs.declared.fault.InputFault.TheVariants.{NotDecimal, DoesNotFit}
use Rattle.record.specs.declared.kind.Kind.{Kind}
use Rattle.record.specs.declared.kind.Kind.TheVariants.{U16, U32, U64, Packed}

-- The word itself, up to a type's greatest.
abbrev pub up_to : ℕ → ℕ → Result ℕ InputFault
up_to greatest w = cond (nat_le w greatest) (Ok w) (Err DoesNotFit)

-- The number that sixteen decimal digits write.
abbrev pub packed_number : ℕ → Result ℕ InputFault
packed_number w = cond (all_digits 16 w) (Ok (decimal 16 w)) (Err NotDecimal)

abbrev pub number_of : Kind → ℕ → Result ℕ InputFault
number_of U16 w = up_to 0xffff w
number_of U32 w = up_to 0xffff_ffff w
number_of U64 w = up_to 0xffff_ffff_ffff_ffff w
number_of Packed w = packed_number w
