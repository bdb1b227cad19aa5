use Rattle.std.proofs.Common.{refl, arith}
use Rattle.packed.proofs.Carries.{changed}
use Rattle.packed.proofs.Sixteen.{sum_passes, sum_digits, sum_value, sum_fits}
use Rattle.packed.proofs.packed_decimal.integer.PackedDecimalCountingNumber.checked_add.Goals as goal

pub returns-in_err-sum : goal.returns-in_err-sum
returns-in_err-sum c =
    rw c.from_residual.ensures
    (λ fits. omega (arith, sum_passes c.args.self.word c.args.other.word c.args.self.digits c.args.other.digits (omega arith) (omega arith) _ refl (omega (arith, c.in_err-sum.ensures))))

pub returns-then-sum-gt9 : goal.returns-then-sum-gt9
returns-then-sum-gt9 c fits = omega (arith, sum_passes c.args.self.word c.args.other.word c.args.self.digits c.args.other.digits (omega arith) (omega arith) c.in_ok-sum.sum c.in_ok-sum.ensures.1 c.if-sum-gt9.true)

pub invariant_of-result : goal.invariant_of-result
unfolding changed
invariant_of-result c = record { digits = sum_digits c.args.self.word c.args.other.word c.args.self.digits c.args.other.digits (omega arith) (omega arith) c.in_ok-sum.sum c.in_ok-sum.ensures.1 c.if-sum-gt9.false }

pub returns : goal.returns
unfolding changed
returns c = (
  sum_fits c.args.self.word c.args.other.word c.args.self.digits c.args.other.digits (omega arith) (omega arith) c.in_ok-sum.sum c.in_ok-sum.ensures.1 c.if-sum-gt9.false,
  sum_value c.args.self.word c.args.other.word c.args.self.digits c.args.other.digits (omega arith) (omega arith) c.in_ok-sum.sum c.in_ok-sum.ensures.1 c.if-sum-gt9.false,
)
