-- The refusals of packed decimals, each by its number and the values that it carries.
use Rattle.std.specs.Prelude.{[]}
use Rattle.generic.specs.Refusals.{Refusal, refuses}
use Rattle.packed.specs.declared.fault.PackedFault.{PackedFault}
use Rattle.packed.specs.declared.fault.PackedFault.TheVariants.{NotDecimal}

abbrev pub refusal : PackedFault → Refusal
refusal NotDecimal = refuses 10 []
