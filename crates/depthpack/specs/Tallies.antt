-- How many records of each kind a run has met.
use Rattle.std.specs.Prelude.{ℕ, ◌+◌, min, Ok, Err, Result}
use Rattle.record.specs.declared.fault.RecordFault.{RecordFault}
use Rattle.record.specs.declared.fault.RecordFault.TheVariants.{Refused, Bad, Short}
use Rattle.record.specs.declared.request.Request.{Request}
use Rattle.depthpack.specs.declared.tally.Tally.{Tally}

-- One more; a count that has come to the greatest stays there.
abbrev pub more : ℕ → ℕ
more n = min (n + 1) 0xffff_ffff_ffff_ffff

abbrev pub none : Tally
none = record { packed = 0; refused = 0; bad = 0; short = 0 }

-- One record more, by what it comes to.
abbrev pub counted : Result Request RecordFault → Tally → Tally
counted (Ok request) t = record { packed = more t.packed; refused = t.refused; bad = t.bad; short = t.short }
counted (Err (Refused fault)) t = record { packed = t.packed; refused = more t.refused; bad = t.bad; short = t.short }
counted (Err Bad) t = record { packed = t.packed; refused = t.refused; bad = more t.bad; short = t.short }
counted (Err Short) t = record { packed = t.packed; refused = t.refused; bad = t.bad; short = more t.short }
