use Rattle.std.proofs.Common.{◌*◌, ◌/◌, ◌<◌, div-lt_iff_lt-mul, arith}
use Rattle.division.proofs.Tests.{there}
use Rattle.division.proofs.proper.Proper.next_digit.Goals as goal

pub unwrap-requires : goal.unwrap-requires
unwrap-requires g c =
    let number = g.T.CountingNumber.number in
    let r = number c.args.self.now.remainder in
    let d = number c.args.self.now.divisor in
    let divided = rw (c.unwrap-digit.ensures) at c.div_rem.ensures in
    let digit = rw (c.in-Some.ensures.1, c.ten.ensures) at divided.1 in
    let small : 10 * r / d < 10 = (div-lt_iff_lt-mul {k = d} {x = 10 * r} {y = 10} (omega arith)).1 (omega arith) in
    there _ _ _ _ c.to_u8.ensures (omega arith)
