-- What a sink tells of itself by numbers, and what digits make of them.
use Rattle.std.specs.Prelude.{◌≡◌, ℕ, ◌+◌, ◌<◌, ◌≤◌, List, [], ◌∷◌, length}
use Rattle.division.specs.Digits.{fed}
use Rattle.division.specs.declared.sink.Answer.{Answer}
use Rattle.division.specs.declared.sink.Answer.TheVariants.{NotDigit, Full, Enough, More}

-- How many digits it has taken, how many it may still take, and the number that it makes of its digits.
pub record Tally : Type 0 where
  pub taken : ℕ
  pub left : ℕ
  pub held : ℕ

-- The tally of s by the members of its kind of sink.
abbrev pub tally_by : {S : Type 0} → (S → ℕ) → (S → ℕ) → (S → ℕ) → S → Tally
tally_by taken left held s = record { taken = taken s; left = left s; held = held s }

-- Nothing changes.
pub record Same (a b : Tally) : Type 0 where
  pub taken : b.taken ≡ a.taken
  pub left : b.left ≡ a.left
  pub held : b.held ≡ a.held

-- The digits xs are taken, one after another.
pub record Took (step : ℕ → ℕ → ℕ) (a : Tally) (xs : List ℕ) (b : Tally) : Type 0 where
  pub taken : b.taken ≡ a.taken + length xs
  pub left : b.left + length xs ≡ a.left
  pub held : b.held ≡ fed step a.held xs

-- What an offer of d answers, and what it makes of the tally: exactly one answer fits each offer.
abbrev pub Offered : (ℕ → ℕ → ℕ) → Tally → ℕ → Tally → Answer → Type 0
Offered step a d b NotDigit = (10 ≤ d) × Same a b
Offered step a d b Full = (d < 10) × (a.left ≡ 0) × Same a b
Offered step a d b Enough = (d < 10) × (b.left ≡ 0) × Took step a (d ∷ []) b
Offered step a d b More = (d < 10) × (0 < b.left) × Took step a (d ∷ []) b
