-- The refusals of records, each by its number and the values that it carries, and the line that tells of one.
use Rattle.std.specs.Prelude.{ℕ, List, [], ◌++◌, codes}
use Rattle.std.specs.Fmt.{decimal}
use Rattle.generic.specs.Refusals.{Refusal, refuses}
use Rattle.record.specs.declared.fault.InputFault.{InputFault}
use Rattle.record.specs.declared.fault.InputFault.TheVariants.{NotDecimal, DoesNotFit}
use Rattle.record.specs.declared.fault.RecordFault.{RecordFault}
use Rattle.record.specs.declared.fault.RecordFault.TheVariants.{Refused, Bad, Short}

abbrev pub refusal : InputFault → Refusal
refusal NotDecimal = refuses 10 []
refusal DoesNotFit = refuses 11 []

abbrev pub line_of : RecordFault → List ℕ
line_of (Refused f) = codes "refused " ++ decimal (refusal f).number
line_of Bad = codes "bad record"
line_of Short = codes "short record"
