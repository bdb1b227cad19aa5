-- The package that is about to be put.
use Rattle.std.specs.Prelude.{◌≡◌, ℕ, List}
use Rattle.generic.specs.declared.counting.CountingNumber.{Ghosts}
use Rattle.fraction.specs.declared.ratio.Ratio.{Ratio}
use Rattle.numeric.specs.Cut.{cut, scale_of}
use Rattle.numeric.specs.Package.{Package, bare, groups_of, package_of}
use Rattle.numeric.specs.Words.{word_of}
use Rattle.numeric_write.specs.declared.measured.Measured.{Measured}
use Rattle.numeric_write.specs.declared.plan.Plan.{Plan}
use Rattle.numeric_write.specs.declared.plan.Plan.TheVariants.{Bare, Groups}

-- The measure of a fraction, with as many decimals as the precision p gives.
pub record Measures {X : Type 0} (g : Ghosts X) (ratio : Ratio X) (p : ℕ) (m : Measured X g) : Type 0 where
  pub rest : m.state.rest ≡ ratio.numer
  pub divisor : m.state.divisor ≡ ratio.denom
  pub scale : m.extent.scale ≡ scale_of (g.number ratio.numer) (g.number ratio.denom) p

-- The number that the digits of a measured fraction form, in units of its last decimal.
abbrev pub cut_of : {X : Type 0} {g : Ghosts X} → Measured X g → ℕ
cut_of {g = g} m = cut (g.number m.state.rest) (g.number m.state.divisor) m.extent.scale

abbrev pub groups_in : {X : Type 0} {g : Ghosts X} → Measured X g → List ℕ
groups_in m = groups_of (cut_of m) m.extent.scale

abbrev pub planned : {X : Type 0} {g : Ghosts X} → Plan X g → Package
planned (Bare sign) = bare (word_of sign)
planned (Groups sign m) = package_of (word_of sign) (cut_of m) m.extent.scale
