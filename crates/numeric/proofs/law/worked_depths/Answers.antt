-- Each row computes.
use Rattle.std.proofs.Common.{refl}
use Rattle.numeric.specs.Cut.{scale_of}
use Rattle.numeric.specs.Package.{width, groups_of, weight_of, written}
use Rattle.numeric.proofs.law.worked_depths.Goals as goal

pub returns : goal.returns
unfolding width scale_of groups_of weight_of written
returns c = ((refl, (refl, (refl, (refl, (refl, (refl, (refl, (refl, (refl, (refl, (refl, (refl, (refl, tt))))))))))))), refl, refl, refl, refl)
