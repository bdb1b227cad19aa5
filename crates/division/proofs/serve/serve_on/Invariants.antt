use Rattle.std.proofs.Common.{◌≡◌, ℕ, ◌≤◌, get_or, take}
use Rattle.division.specs.Serve.{Served}
use Rattle.division.proofs.serve.serve_on.Given as goal

abbrev pub invariant-loop-sink : goal.invariant-loop-sink
invariant-loop-sink g l =
    Served g.T.CountingNumber g.S.DigitSink l.initial.division (take l.sink-index l.initial.sink-items) (take l.sink-index l.sink-items) l.division
    × ((k : ℕ) (d : g.row.S.Denot) → l.sink-index ≤ k → get_or l.sink-items k d ≡ get_or l.initial.sink-items k d)
