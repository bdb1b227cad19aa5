-- The refusals of packages, each by its number and the values that it carries.
use Rattle.std.specs.Prelude.{[], ◌∷◌}
use Rattle.generic.specs.Refusals.{Refusal, refuses}
use Rattle.numeric.specs.declared.fault.PackageFault.{PackageFault}
use Rattle.numeric.specs.declared.fault.PackageFault.TheVariants.{NoSpace}

abbrev pub refusal : PackageFault → Refusal
refusal (NoSpace needed) = refuses 9 (needed ∷ [])
