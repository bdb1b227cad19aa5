-- Calls on one division, and runs of them.
use Rattle.std.specs.Prelude.{◌≡◌, ℕ, ◌+◌, ◌-◌, ◌<◌, min, List, [], ◌∷◌, ◌++◌}
use Rattle.division.specs.Expansion.{coming, Went}
use Rattle.division.specs.Faults.{Cause}
use Rattle.division.specs.Tally.{Tally, Same, Took}
use Rattle.division.specs.declared.fault.DivisionFault.{DivisionFault}

-- A call goes on with the whole part or with the fraction, or is refused.
pub data Kind : Type 0 where
  whole : Kind
  fraction : Kind
  refused : DivisionFault → Kind

-- A call as its caller sees it: the sink's step, its tally before and after, and the state handed back.
pub record Call : Type 0 where
  pub kind : Kind
  pub step : ℕ → ℕ → ℕ
  pub before : Tally
  pub after : Tally
  pub rest' : ℕ
  pub place' : ℕ

-- What the calls' contracts say of a call on the state of rest m and place p, with the divisor d.
abbrev pub MadeBy : Kind → ℕ → ℕ → ℕ → Call → Type 0
MadeBy whole d m p c =
    (0 < p) × Went c.step d m p (min c.before.left p) c.before c.after c.rest' c.place'
MadeBy fraction d m p c =
    (p ≡ 0) × (m < d) × Went c.step d m 0 (coming d m c.before.left) c.before c.after c.rest' c.place'
MadeBy (refused f) d m p c =
    (p ≡ 0) × Cause f d m × Same c.before c.after × (c.rest' ≡ m) × (c.place' ≡ 0)

abbrev pub Made : ℕ → ℕ → ℕ → Call → Type 0
Made d m p c = MadeBy c.kind d m p c

-- Each call is made on the state that the one before handed back.
abbrev pub Run : ℕ → ℕ → ℕ → List Call → Type 0
Run d m p [] = Unit {0}
Run d m p (c ∷ cs) = Made d m p c × Run d c.rest' c.place' cs

-- How many digits the calls took in all, and the state that the last handed back.
abbrev pub total : List Call → ℕ
total [] = 0
total (c ∷ cs) = (c.after.taken - c.before.taken) + total cs

abbrev pub last_rest : ℕ → List Call → ℕ
last_rest m [] = m
last_rest m (c ∷ cs) = last_rest c.rest' cs

abbrev pub last_place : ℕ → List Call → ℕ
last_place p [] = p
last_place p (c ∷ cs) = last_place c.place' cs

-- The digits ds are cut, with none over, into one piece for each call in turn, which its sink took.
abbrev pub Shared : List ℕ → List Call → Type 0
Shared ds [] = ds ≡ []
Shared ds (c ∷ cs) = (xs : List ℕ) × (ys : List ℕ) × (ds ≡ xs ++ ys) × Took c.step c.before xs c.after × Shared ys cs

-- No call is refused.
abbrev pub Goes : Kind → Type 0
Goes whole = Unit {0}
Goes fraction = Unit {0}
Goes (refused f) = ⊥

abbrev pub EachGoes : List Call → Type 0
EachGoes [] = Unit {0}
EachGoes (c ∷ cs) = Goes c.kind × EachGoes cs

-- Each call is refused, with its cause in the divisor d and the remainder m, and its sink stays as it was.
abbrev pub EachRefused : ℕ → ℕ → List Call → Type 0
EachRefused d m [] = Unit {0}
EachRefused d m (c ∷ cs) =
    (f : DivisionFault) × (c.kind ≡ refused f) × Cause f d m × Same c.before c.after × EachRefused d m cs
