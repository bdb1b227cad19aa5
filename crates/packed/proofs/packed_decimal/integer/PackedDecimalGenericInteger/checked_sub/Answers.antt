use Rattle.std.proofs.Common.{arith}
use Rattle.packed.proofs.Carries.{changed}
use Rattle.packed.proofs.Sixteen.{lesser, borrowed_fits, difference_digits, difference_value}
use Rattle.packed.proofs.packed_decimal.integer.PackedDecimalGenericInteger.checked_sub.Goals as goal

pub returns-in_err-difference : goal.returns-in_err-difference
returns-in_err-difference c =
    rw c.from_residual.ensures
    (λ fits. omega (arith, lesser c.args.self.word c.args.other.word c.args.self.digits c.args.other.digits (omega arith) (omega arith) (omega (arith, c.in_err-difference.ensures))))

pub overflow_sub-result : goal.overflow_sub-result
unfolding changed
overflow_sub-result c = borrowed_fits c.args.self.word c.args.other.word c.args.self.digits c.args.other.digits (omega arith) (omega arith) c.in_ok-difference.difference c.in_ok-difference.ensures.1 c.in_ok-difference.ensures.0

pub invariant_of-result : goal.invariant_of-result
unfolding changed
invariant_of-result c = record { digits = difference_digits c.args.self.word c.args.other.word c.args.self.digits c.args.other.digits (omega arith) (omega arith) c.in_ok-difference.difference c.in_ok-difference.ensures.1 c.in_ok-difference.ensures.0 }

pub returns : goal.returns
unfolding changed
returns c =
    let sum = difference_value c.args.self.word c.args.other.word c.args.self.digits c.args.other.digits (omega arith) (omega arith) c.in_ok-difference.difference c.in_ok-difference.ensures.1 c.in_ok-difference.ensures.0 in
    (omega (arith, sum), omega (arith, sum))
