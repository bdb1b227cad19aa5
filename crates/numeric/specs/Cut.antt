-- A fraction cut after some decimals, and how many decimals a precision gives.
use Rattle.std.specs.Prelude.{◌≡◌, ℕ, ◌*◌, ◌/◌, ◌%◌, ◌^◌, ◌<◌, ◌≤◌}
use Rattle.division.specs.Expansion.{coming}

-- n over d in whole units of 10^(-s), rounded down: its expansion up to s decimals.
abbrev pub cut : ℕ → ℕ → ℕ → ℕ
cut n d s = n * 10 ^ s / d

-- The lesser of p and the length of the fractional expansion.
unfoldable pub scale_of : ℕ → ℕ → ℕ → ℕ
scale_of n d p = coming d (n % d) p

-- The fractional expansion has no digit but zeros after s decimals.
abbrev pub Ends : ℕ → ℕ → ℕ → Type 0
Ends n d s = n * 10 ^ s % d ≡ 0

-- The same as a relation: s is p, or less where the expansion ends there and not sooner.
pub record Scale (n d p s : ℕ) : Type 0 where
  pub within : s ≤ p
  pub goes_on : (t : ℕ) → t < s → Ends n d t → ⊥
  pub stops : s < p → Ends n d s
