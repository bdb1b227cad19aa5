use Rattle.std.proofs.Common.{refl, arith}
use Rattle.packed.proofs.Halves.{writes_halves, writes_as}
use Rattle.packed.proofs.packed_decimal.conversion.pack_four.Goals as goal

pub returns : goal.returns
returns c = writes_as (writes_halves 2 2 _ _ _ _ c.pack_two-2.ensures c.pack_two.ensures) refl (omega arith)
