use Rattle.std.proofs.Common.{◌<◌, sym, ◌∙◌, mod-eq_of_lt, arith, rules}
use native.Mathlib.Nat.{div-eq_of_lt}
use Rattle.packed.proofs.Sixteen.{lesser}
use Rattle.packed.proofs.packed_decimal.integer.PackedDecimalGenericInteger.div_rem.Goals as goal

pub returns-then-lt : goal.returns-then-lt
returns-then-lt c =
    let word : c.args.self.word < c.args.by.word = search rules in
    let less = lesser c.args.self.word c.args.by.word c.args.self.digits c.args.by.digits (omega arith) (omega arith) word in
    (omega (arith, less), c.zero.ensures ∙ sym (div-eq_of_lt less), sym (mod-eq_of_lt less))
