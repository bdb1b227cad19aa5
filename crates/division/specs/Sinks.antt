-- Each sink's members: what it has taken, has left and holds, and how it goes on.
use Rattle.std.specs.Prelude.{◌≡◌, ℕ, ◌-◌, min, length, take}
use Rattle.division.specs.Digits.{ascii_number, shifted}
use Rattle.division.specs.Order.{TextOn}
use Rattle.division.specs.declared.counter.Counter.{Counter}
use Rattle.division.specs.declared.cut.Cut.{Cut}
use Rattle.division.specs.declared.sink.DigitSink.{Ghosts}
use Rattle.division.specs.declared.text.TextSink.{TextSink}

-- A counter makes no number of its digits.
abbrev pub counter : Ghosts Counter
counter =
    record {
      taken = λ s. min s.taken 65535;
      left = λ s. min s.limit 65535 - s.taken;
      held = λ s. 0;
      step = λ h d. 0;
      on = λ s t. Unit {0};
    }

-- A text holds the number that stands in its buffer.
abbrev pub text : Ghosts TextSink
text =
    record {
      taken = λ s. min s.taken 65535;
      left = λ s. min (length s.buffer.now) 65535 - s.taken;
      held = λ s. ascii_number (take s.taken s.buffer.now);
      step = shifted;
      on = λ s t. TextOn s.buffer.ghost_name s.buffer.now s.taken t.buffer.ghost_name t.buffer.now t.taken;
    }

-- A cut is the sink below it, with its own limit on what is left.
abbrev pub cut : {S : Type 0} → Ghosts S → Ghosts (Cut S)
cut sink =
    record {
      taken = λ s. sink.taken s.below;
      left = λ s. min s.limit (sink.left s.below);
      held = λ s. sink.held s.below;
      step = sink.step;
      on = λ s t. sink.on s.below t.below;
    }

-- By its members the sink s has taken t digits, has l left and holds h.
pub record Stands {S : Type 0} (sink : Ghosts S) (s : S) (t l h : ℕ) : Type 0 where
  pub taken : sink.taken s ≡ t
  pub left : sink.left s ≡ l
  pub held : sink.held s ≡ h
