use Rattle.std.proofs.Common.{◌<◌, arith, rules}
use Rattle.packed.proofs.Sixteen.{lesser}
use Rattle.packed.proofs.packed_decimal.PackedDecimal.below_ten_times.Goals as goal

pub returns-in-Some : goal.returns-in-Some
returns-in-Some c test =
    let word : c.args.self.word < c.in-Some.tenfold.word = search rules in
    let less = lesser c.args.self.word c.in-Some.tenfold.word c.args.self.digits c.in-Some.tenfold.digits (omega arith) (omega arith) word in
    omega (arith, less, c.in-Some.ensures.1)
