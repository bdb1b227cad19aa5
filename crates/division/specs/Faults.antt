-- The refusals of a division, each by its number and the values that it carries, and by its cause.
use Rattle.std.specs.Prelude.{◌≡◌, ℕ, ◌<◌, ◌≤◌, []}
use Rattle.generic.specs.Refusals.{Refusal, refuses}
use Rattle.division.specs.declared.fault.DivisionFault.{DivisionFault}
use Rattle.division.specs.declared.fault.DivisionFault.TheVariants.{ZeroDivisor, RemainderNotBelow}

abbrev pub refusal : DivisionFault → Refusal
refusal ZeroDivisor = refuses 7 []
refusal RemainderNotBelow = refuses 8 []

-- What is wrong with the divisor d and the remainder r.
abbrev pub Cause : DivisionFault → ℕ → ℕ → Type 0
Cause ZeroDivisor d r = d ≡ 0
Cause RemainderNotBelow d r = (0 < d) × (d ≤ r)
