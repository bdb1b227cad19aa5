-- The laws of long division: over whole runs of calls, and of the digits themselves.
use Rattle.std.specs.Prelude.{◌≡◌, ℕ, ◌+◌, ◌-◌, ◌*◌, ◌^◌, ◌<◌, ◌≤◌, List, [], ◌∷◌}
use Rattle.division.specs.Digits.{fed, shifted}
use Rattle.division.specs.Expansion.{digits, rest, coming}
use Rattle.division.specs.Runs.{Call, Run, total, last_rest, last_place, Shared, EachGoes, EachRefused}
use Rattle.division.specs.Whole.{Width}

-- Each call is refused, no sink took a digit, and the state handed back last is the first.
pub record StandsStill (d m : ℕ) (cs : List Call) : Type 0 where
  pub kinds : EachRefused d m cs
  pub none : total cs ≡ 0
  pub state : last_rest m cs ≡ m
  pub place : last_place 0 cs ≡ 0

-- The calls cs on a division of n by d with w whole digits. No call is refused. The sinks took the leading digits of n over d,
-- each once and in order; j is their count, and Q the number that they form. The state handed back last has w - j whole digits
-- to come, and its rest is exactly what the digits leave.
pub record Leading (n d w : ℕ) (cs : List Call) : Type 0 where
  pub kinds : EachGoes cs
  pub shared : Shared (digits d n w (total cs)) cs
  pub place : last_place w cs ≡ w - total cs
  pub whole :
      total cs ≤ w
      → (n ≡ fed shifted 0 (digits d n w (total cs)) * (10 ^ (w - total cs) * d) + last_rest n cs)
      × (last_rest n cs < 10 ^ (w - total cs) * d)
  pub fraction :
      w ≤ total cs
      → (n * 10 ^ (total cs - w) ≡ fed shifted 0 (digits d n w (total cs)) * d + last_rest n cs)
      × (last_rest n cs < d)

-- The digits that come, with at most l wanted, are the lesser of l and those up to the first remainder 0.
abbrev pub Lesser : Type 0
Lesser =
    (d r l : ℕ)
    → (coming d r l ≤ l)
    × ((i : ℕ) → i < coming d r l → 0 < rest d r 0 i)
    × (coming d r l < l → rest d r 0 (coming d r l) ≡ 0)

-- No run of calls loses a digit: any list of calls, each on the state that the one before handed back, with any sinks, from
-- opening n over d on, or from a division begun with any remainder and divisor.
pub record NoDigitLost : Type 0 where
  pub opened : (n d w : ℕ) (cs : List Call) → Width n d w → Run d n w cs → Leading n d w cs
  pub begun : (r d : ℕ) (cs : List Call) → Run d r 0 cs → r < d → Leading r d 0 cs
  pub refused : (r d : ℕ) (cs : List Call) → Run d r 0 cs → d ≤ r → StandsStill d r cs
  pub lesser : Lesser

-- Worked cases: the next digit and the rest after it, also where ten times the rest passes 65535; a whole part of two
-- digits; a fraction that ends and one that does not.
abbrev pub WorkedCases : Type 0
WorkedCases =
    (digits 65535 65533 0 1 ≡ 9 ∷ []) × (rest 65535 65533 0 1 ≡ 65515)
    × (digits 65535 58981 0 1 ≡ 8 ∷ []) × (rest 65535 58981 0 1 ≡ 65530)
    × (digits 2 30 2 1 ≡ 1 ∷ []) × (rest 2 30 2 1 ≡ 10)
    × (digits 2 30 2 2 ≡ 1 ∷ 5 ∷ []) × (coming 8 1 9 ≡ 3) × (coming 3 1 9 ≡ 9)
