use Rattle.std.proofs.Common.{◌<◌, ◌∙◌, arith}
use Rattle.packed.specs.Digits.{decimal}
use Rattle.packed.proofs.Sixteen.{digit_word, divided, few}
use Rattle.packed.proofs.packed_decimal.PackedDecimal.few_times.Goals as goal

pub returns-clause-quotient : goal.returns-clause-quotient
returns-clause-quotient c =
    let small : decimal 16 c.loop-less.rest.word < decimal 16 c.args.by.word = omega (arith, c.in_default.ensures) in
    let parts = divided (decimal 16 c.args.self.word) (decimal 16 c.args.by.word) c.loop-less.times (decimal 16 c.loop-less.rest.word) small c.loop-less.invariant in
    (digit_word c.loop-less.times (few _ _ c.loop-less.times _ c.requires.few c.loop-less.invariant)).1 ∙ parts.0
