-- What going on with the fraction comes to, by its answer.
use Rattle.std.specs.Prelude.{◌≡◌, ◌<◌, [], Ok, Err, Result}
use Rattle.generic.specs.Refusals.{refuses}
use Rattle.generic.specs.declared.counting.CountingNumber as counting
use Rattle.division.specs.Faults.{refusal}
use Rattle.division.specs.Runs.{fraction, refused, Made}
use Rattle.division.specs.Sink.{called}
use Rattle.division.specs.declared.sink.DigitSink.{Ghosts}
use Rattle.division.specs.declared.state.Refused.{Refused}
use Rattle.division.specs.declared.state.Resumed.{Resumed}

-- Of the remainder r over the divisor d. A refused call hands the very state back; it is refused with 7 where d is 0, else with 8.
abbrev pub Resumes : {X S : Type 0} → counting.Ghosts X → Ghosts S → X → X → S → S → Result (Resumed X) (Refused X) → Type 0
Resumes g sink r d s t (Ok a) =
    (a.state.divisor ≡ d) × Made (g.number d) (g.number r) 0 (called sink fraction s t (g.number a.state.remainder) 0)
    × sink.on s t
Resumes g sink r d s t (Err a) =
    (a.state.remainder ≡ r) × (a.state.divisor ≡ d)
    × Made (g.number d) (g.number r) 0 (called sink (refused a.fault) s t (g.number a.state.remainder) 0)
    × (g.number d ≡ 0 → refusal a.fault ≡ refuses 7 []) × (0 < g.number d → refusal a.fault ≡ refuses 8 [])
    × sink.on s t
