-- What a record of twenty bytes asks for: type, sign, precision (2), numerator (8), denominator (8).
use Rattle.std.specs.Prelude.{ℕ, cond, List, length, Ok, Err, Result, nat_lt, slice_index}
use Rattle.generic.specs.declared.sign.Sign.{Sign}
use Rattle.record.specs.declared.fault.InputFault.{InputFault}
use Rattle.record.specs.declared.fault.RecordFault.{RecordFault}
use Rattle.record.specs.declared.fault.RecordFault.TheVariants.{Refused, Short}
use Rattle.record.specs.declared.kind.Kind.{Kind}
use Rattle.record.specs.declared.request.Request.{Request}
use Rattle.record.specs.Bytes.{bytes_number}
use Rattle.record.specs.Depths.{depth}
use Rattle.record.specs.Kinds.{kind_of, sign_of}
use Rattle.record.specs.Numbers.{number_of}

-- A numerator over a denominator, with a precision: refused by the fault of the first that has one.
abbrev pub over : Sign → ℕ → Result ℕ InputFault → Result ℕ InputFault → Result Request RecordFault
over sign precision (Err f) d = Err (Refused f)
over sign precision (Ok n) (Err f) = Err (Refused f)
over sign precision (Ok n) (Ok d) = Ok (record { depth = depth sign n d; precision = precision })

-- By the type and the sign, which are judged before the numbers.
abbrev pub named : Result Kind RecordFault → Result Sign RecordFault → List ℕ → Result Request RecordFault
named (Err f) sign bs = Err f
named (Ok kind) (Err f) bs = Err f
named (Ok kind) (Ok sign) bs =
    over sign (bytes_number 2 2 bs) (number_of kind (bytes_number 8 4 bs)) (number_of kind (bytes_number 8 12 bs))

-- Bytes beyond the twentieth are not looked at.
abbrev pub request : List ℕ → Result Request RecordFault
request bs = cond (nat_lt (length bs) 20) (Err Short) (named (kind_of (slice_index bs 0)) (sign_of (slice_index bs 1)) bs)
