-- The refusals of fractions, each by its number and the values that it carries.
use Rattle.std.specs.Prelude.{[]}
use Rattle.generic.specs.Refusals.{Refusal, refuses}
use Rattle.fraction.specs.declared.fault.FractionFault.{FractionFault}
use Rattle.fraction.specs.declared.fault.FractionFault.TheVariants.{ZeroDenominator}

abbrev pub refusal : FractionFault → Refusal
refusal ZeroDenominator = refuses 7 []
