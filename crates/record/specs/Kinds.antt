-- The types and the signs that a record's first two bytes name.
use Rattle.std.specs.Prelude.{ℕ, cond, Ok, Err, Result, ◌==◌}
use Rattle.generic.specs.declared.sign.Sign.{Sign}
use Rattle.generic.specs.declared.sign.Sign.TheVariants.{Plus, Minus}
use Rattle.record.specs.declared.fault.RecordFault.{RecordFault}
use Rattle.record.specs.declared.fault.RecordFault.TheVariants.{Bad}
use Rattle.record.specs.declared.kind.Kind.{Kind}
use Rattle.record.specs.declared.kind.Kind.TheVariants.{U16, U32, U64, Packed}

abbrev pub kind_of : ℕ → Result Kind RecordFault
kind_of b =
    cond (b == 1) (Ok U16)
    (cond (b == 2) (Ok U32)
    (cond (b == 3) (Ok U64)
    (cond (b == 4) (Ok Packed) (Err Bad))))

abbrev pub sign_of : ℕ → Result Sign RecordFault
sign_of b = cond (b == 0) (Ok Plus) (cond (b == 1) (Ok Minus) (Err Bad))
