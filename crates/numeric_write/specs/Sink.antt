-- The members of a group sink: what it has taken, has left and holds, and how it goes on.
use Rattle.std.specs.Prelude.{◌≡◌, ℕ, ◌+◌, ◌*◌, ◌%◌, List}
use Rattle.division.specs.Digits.{shifted}
use Rattle.division.specs.declared.sink.DigitSink.{Ghosts}
use Rattle.numeric_write.specs.Laid.{Laid, held}
use Rattle.numeric_write.specs.declared.group_sink.GroupSink.{GroupSink}

-- A sink goes on in the same buffer, where groups that are laid stay laid, and the places of the next group keep step with the digits.
pub record Goes (s t : GroupSink) : Type 0 where
  pub lender : t.buffer.ghost_name ≡ s.buffer.ghost_name
  pub step : (t.places + 3 * t.taken) % 4 ≡ (s.places + 3 * s.taken) % 4
  pub laid : (before : List ℕ) → Laid before s.buffer.now s.count → Laid before t.buffer.now t.count

abbrev pub groups : Ghosts GroupSink
groups =
    record {
      taken = λ s. s.taken;
      left = λ s. s.left;
      held = λ s. held s.buffer.now s.count s.places s.group;
      step = shifted;
      on = Goes;
    }
