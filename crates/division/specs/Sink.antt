-- A sink before and after.
use Rattle.std.specs.Prelude.{ℕ, List}
use Rattle.division.specs.Runs.{Kind, Call}
use Rattle.division.specs.Tally.{Tally, Took, tally_by}
use Rattle.division.specs.declared.sink.DigitSink.{Ghosts}

abbrev pub tally : {S : Type 0} → Ghosts S → S → Tally
tally sink s = tally_by sink.taken sink.left sink.held s

-- The sink s takes the digits xs, one after another, and is then t.
pub record Takes {S : Type 0} (sink : Ghosts S) (s : S) (xs : List ℕ) (t : S) : Type 0 where
  pub took : Took sink.step (tally sink s) xs (tally sink t)
  pub on : sink.on s t

-- A call on a division, from the sink s to t, that hands back the rest m and the place p.
abbrev pub called : {S : Type 0} → Ghosts S → Kind → S → S → ℕ → ℕ → Call
called sink kind s t m p = record { kind = kind; step = sink.step; before = tally sink s; after = tally sink t; rest' = m; place' = p }
