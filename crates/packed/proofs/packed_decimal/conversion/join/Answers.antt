use Rattle.std.proofs.Common.{arith}
use Rattle.std.proofs.lemmas.Nat.{one_shl}
use Rattle.packed.proofs.Parts.{room, joined_written}
use Rattle.packed.proofs.packed_decimal.conversion.join.Goals as goal

pub overflow_sub-result-2 : goal.overflow_sub-result-2
overflow_sub-result-2 c = rw (one_shl c.args.bits 64 (omega arith)) (room _ _ c.requires.fits _ c.args.word)

pub overflow_mul-result : goal.overflow_mul-result
overflow_mul-result c = omega (arith, overflow_sub-result-2 c)

pub returns : goal.returns
returns c = rw (one_shl c.args.bits 64 (omega arith), c.requires.lower) (joined_written _ _ c.requires.fits _ c.args.word)
