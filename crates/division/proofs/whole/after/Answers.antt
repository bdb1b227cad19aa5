use Rattle.std.proofs.Common.{refl, arith}
use Rattle.division.proofs.Places.{sound_down}
use Rattle.division.proofs.whole.after.Goals as goal

pub returns-else-state-eq1 : goal.returns-else-state-eq1
returns-else-state-eq1 g c =
    let divided = rw (c.unwrap-unit.ensures, c.ten.ensures) at c.div_rem.ensures in
    (omega arith, refl, refl, refl, sound_down _ _ _ _ _ _ _ c.requires.sound c.if-state-eq1.false c.requires.rest divided.1)
