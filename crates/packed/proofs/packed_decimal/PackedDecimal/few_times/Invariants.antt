use Rattle.std.proofs.Common.{◌≡◌, ◌+◌, ◌*◌}
use Rattle.packed.specs.Digits.{decimal}
use Rattle.packed.proofs.packed_decimal.PackedDecimal.few_times.Given as goal

abbrev pub invariant-loop-less : goal.invariant-loop-less
invariant-loop-less l = l.times * decimal 16 l.by.word + decimal 16 l.rest.word ≡ decimal 16 l.initial.rest.word

abbrev pub decreases-loop-less : goal.decreases-loop-less
decreases-loop-less l = decimal 16 l.rest.word
