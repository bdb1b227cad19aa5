-- What the makers answer for a sign and two numbers, for all of them.
use Rattle.std.specs.Prelude.{◌≡◌, ℕ, ◌<◌, [], Ok, Err, Result}
use Rattle.generic.specs.Refusals.{refuses}
use Rattle.generic.specs.declared.sign.Sign.{Sign}
use Rattle.fraction.specs.Faults.{refusal}
use Rattle.fraction.specs.Lowest.{Lowest}
use Rattle.fraction.specs.Meaning.{Meaning, rational, infinity, nan, meant}
use Rattle.fraction.specs.declared.fault.FractionFault.{FractionFault}
use Rattle.fraction.specs.declared.generic_fraction.GenericFraction.{GenericFraction}
use Rattle.fraction.specs.declared.generic_fraction.GenericFraction.TheVariants.{Rational}

-- n over d with the sign s, reduced: in lowest terms where d is above 0; else no number for 0 over 0, and an infinity for the rest.
abbrev pub Made : Sign → ℕ → ℕ → Meaning → Type 0
Made s n d (rational s' n' d') = (0 < d) × (s' ≡ s) × Lowest n d n' d'
Made s n d (infinity s') = (d ≡ 0) × (0 < n) × (s' ≡ s)
Made s n d nan = (d ≡ 0) × (n ≡ 0)

-- Nothing else can be made of n over d with the sign s: m is fixed.
abbrev pub Only : Sign → ℕ → ℕ → Meaning → Type 0
Only s n d m = (other : Meaning) → Made s n d other → other ≡ m

-- n over d with the sign s, as they are where d is above 0, and refused with 7 exactly where it is 0.
abbrev pub MadeRaw : {X : Type 0} → (X → ℕ) → Sign → ℕ → ℕ → Result (GenericFraction X) FractionFault → Type 0
MadeRaw number s n d (Ok f) = (0 < d) × (meant number f ≡ rational s n d)
MadeRaw number s n d (Err e) = (d ≡ 0) × (refusal e ≡ refuses 7 [])

-- The very sign and numbers, and not only what these mean.
abbrev pub raw : {X : Type 0} → Sign → X → X → GenericFraction X
raw s n d = Rational s (record { numer = n; denom = d })
