-- The numbers of a fraction, made of two numbers.
use Rattle.std.specs.Prelude.{◌≡◌, ℕ, ◌<◌, Some, None, Option}
use Rattle.fraction.specs.Lowest.{Lowest}
use Rattle.fraction.specs.declared.ratio.Ratio.{Ratio}

-- n over d as they are, and None exactly where d is 0.
abbrev pub Keeps : {X : Type 0} → (X → ℕ) → X → X → Option (Ratio X) → Type 0
Keeps number n d None = number d ≡ 0
Keeps number n d (Some r) = (0 < number d) × (r.numer ≡ n) × (r.denom ≡ d)

-- n over d in lowest terms, and None exactly where d is 0.
abbrev pub Reduced : {X : Type 0} → (X → ℕ) → X → X → Option (Ratio X) → Type 0
Reduced number n d None = number d ≡ 0
Reduced number n d (Some r) = (0 < number d) × Lowest (number n) (number d) (number r.numer) (number r.denom)
