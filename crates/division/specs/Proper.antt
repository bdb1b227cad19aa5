-- A fraction below 1, and what goes on with it.
use Rattle.std.specs.Prelude.{◌≡◌, ℕ, ◌*◌, ◌/◌, ◌%◌, ◌<◌, Some, None, Ok, Err, Option, Result}
use Rattle.generic.specs.declared.counting.CountingNumber as counting
use Rattle.division.specs.Expansion.{coming, Went}
use Rattle.division.specs.Faults.{Cause}
use Rattle.division.specs.Sink.{tally}
use Rattle.division.specs.declared.fault.DivisionFault.{DivisionFault}
use Rattle.division.specs.declared.proper.Proper.{Proper}
use Rattle.division.specs.declared.sink.DigitSink.{Ghosts}

-- Of the remainder r over d: there is one where r is below d, and else the fault has its cause in them.
abbrev pub Judged : {X : Type 0} (g : counting.Ghosts X) → X → X → Result (Proper X g) DivisionFault → Type 0
Judged g r d (Ok p) = (p.remainder ≡ r) × (p.divisor ≡ d)
Judged g r d (Err f) = Cause f (g.number d) (g.number r)

-- The next digits of p, as one number q below the power of ten, and the fraction a after them.
pub record Next {X : Type 0} {g : counting.Ghosts X} (power : ℕ) (p : Proper X g) (q : ℕ) (a : Proper X g) : Type 0 where
  pub digits : q ≡ power * g.number p.remainder / g.number p.divisor
  pub remainder : g.number a.remainder ≡ power * g.number p.remainder % g.number p.divisor
  pub divisor : a.divisor ≡ p.divisor

-- The digits of p that come, as many as the sink s still takes, go into it and leave a.
abbrev pub Continues : {X S : Type 0} {g : counting.Ghosts X} → Ghosts S → Proper X g → S → S → Proper X g → Type 0
Continues {g = g} sink p s t a =
    (a.divisor ≡ p.divisor)
    × Went sink.step (g.number p.divisor) (g.number p.remainder) 0 (coming (g.number p.divisor) (g.number p.remainder) (sink.left s)) (tally sink s) (tally sink t) (g.number a.remainder) 0
    × sink.on s t

-- Offered as a block, the next four digits of p go into the sink and others follow them, or nothing changes.
abbrev pub Block : {X S : Type 0} {g : counting.Ghosts X} → Ghosts S → Proper X g → S → S → Option (Proper X g) → Type 0
Block {g = g} sink p s t (Some a) =
    (0 < g.number a.remainder) × (a.divisor ≡ p.divisor)
    × Went sink.step (g.number p.divisor) (g.number p.remainder) 0 4 (tally sink s) (tally sink t) (g.number a.remainder) 0
    × sink.on s t
Block sink p s t None = t ≡ s
