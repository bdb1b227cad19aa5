use Rattle.std.proofs.Common.{refl, arith}
use Rattle.packed.proofs.Halves.{writes_halves, writes_as}
use Rattle.packed.proofs.packed_decimal.conversion.pack_sixteen.Goals as goal

pub returns : goal.returns
returns c = writes_as (writes_halves 8 8 _ _ _ _ c.pack_eight-2.ensures c.pack_eight.ensures) refl (omega arith)
