use Rattle.std.proofs.Common.{refl, arith}
use Rattle.packed.proofs.Halves.{writes_halves, writes_as}
use Rattle.packed.proofs.packed_decimal.conversion.pack_eight.Goals as goal

pub returns : goal.returns
returns c = writes_as (writes_halves 4 4 _ _ _ _ c.pack_four-2.ensures c.pack_four.ensures) refl (omega arith)
