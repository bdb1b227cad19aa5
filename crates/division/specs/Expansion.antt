-- The expansion of a division, and what going on with it makes of a sink and of the state.
-- A division of n by d that has come as far as the rest m at the place p stands for m over 10^p × d, with m < 10^p × d:
-- p digits of the whole part are still to come, and then those of the fraction.
use Rattle.std.specs.Prelude.{◌≡◌, ℕ, zero, suc, ◌+◌, ◌-◌, ◌*◌, ◌/◌, ◌%◌, ◌^◌, List, [], ◌∷◌}
use Rattle.division.specs.Digits.{fed}
use Rattle.division.specs.Tally.{Tally}

-- The next k digits.
abbrev pub digits : ℕ → ℕ → ℕ → ℕ → List ℕ
digits d m p zero = []
digits d m zero (suc k) = 10 * m / d ∷ digits d (10 * m % d) zero k
digits d m (suc p) (suc k) = m / (10 ^ p * d) ∷ digits d (m % (10 ^ p * d)) p k

-- The rest after them.
abbrev pub rest : ℕ → ℕ → ℕ → ℕ → ℕ
rest d m p zero = m
rest d m zero (suc k) = rest d (10 * m % d) zero k
rest d m (suc p) (suc k) = rest d (m % (10 ^ p * d)) p k

-- How many fractional digits come from the remainder r, if at most l are wanted: they end at the remainder 0.
abbrev pub coming : ℕ → ℕ → ℕ → ℕ
coming d r zero = 0
coming d zero (suc l) = 0
coming d (suc r) (suc l) = suc (coming d (10 * suc r % d) l)

-- The next k digits go into a sink: what they make of the sink's tally, and of the state's rest and place.
pub record Went (step : ℕ → ℕ → ℕ) (d m p k : ℕ) (a b : Tally) (m' p' : ℕ) : Type 0 where
  pub taken : b.taken ≡ a.taken + k
  pub left : b.left + k ≡ a.left
  pub held : b.held ≡ fed step a.held (digits d m p k)
  pub state : m' ≡ rest d m p k
  pub place : p' ≡ p - k
