use Rattle.generic.proofs.Euclid.{same_more, same_end}
use Rattle.generic.proofs.divisor.euclid.Goals as goal

pub loop-rest-preserved : goal.loop-rest-preserved
loop-rest-preserved g c = same_more _ _ _ _ _ c.in-Some.ensures.2 c.loop-rest.invariant

pub returns : goal.returns
returns g c = same_end _ _ _ (rw c.in_default.ensures at c.loop-rest.invariant)
