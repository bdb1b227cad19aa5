-- What a package takes of a fraction.
use Rattle.std.specs.Prelude.{◌≡◌, ℕ, ◌+◌, ◌*◌, ◌/◌, ◌%◌, ◌^◌, ◌<◌, ◌≤◌, length, ℤ}
use Rattle.numeric.specs.Cut.{cut}
use Rattle.numeric.specs.Package.{fours, groups_of, weight_of}
use Rattle.numeric_write.specs.declared.extent.Extent.{Extent}
use Rattle.numeric_write.specs.declared.shape.Shape.{Shape}
use Rattle.numeric_write.specs.declared.shape.Shape.TheVariants.{Below, Mixed, Whole}

-- The groups of x end with t zero groups, and not with more.
abbrev pub Ending : ℕ → ℕ → Type 0
Ending x t = (x % 10000 ^ t ≡ 0) × (x / 10000 ^ t % 10000 ≡ 0 → ⊥)

-- n over d, of w whole digits and cut after s decimals, in g groups: the digits that stand in them, by the shape.
abbrev pub Shaped : ℕ → ℕ → ℕ → ℕ → ℕ → Shape → Type 0
Shaped n d w s g (Below passed) = (n < d) × (passed % 4 ≡ 0) × (n * 10 ^ passed < d) × (0 < g → (passed < s) × (g + passed / 4 ≡ fours s))
Shaped n d w s g Mixed = (d ≤ n) × (0 < s) × (g ≡ fours w + fours s)
Shaped n d w s g (Whole t) = (d ≤ n) × (s ≡ 0) × (g + t ≡ fours w) × (4 * t < w) × Ending (n / d) t

-- n over d, of w whole digits and cut after s decimals: its groups, its weight, and the digits that stand in the groups.
pub record Sized (n d w s : ℕ) (shape : Shape) (groups : ℕ) (weight : ℤ) : Type 0 where
  pub groups_are : groups ≡ length (groups_of (cut n d s) s)
  pub weight_is : weight ≡ weight_of (cut n d s) s
  pub shaped : Shaped n d w s groups shape

abbrev pub SizedBy : ℕ → ℕ → ℕ → Extent → Type 0
SizedBy n d w e = Sized n d w e.scale e.shape e.groups e.weight
