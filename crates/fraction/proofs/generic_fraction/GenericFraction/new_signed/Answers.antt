use Rattle.std.proofs.Common.{refl}
use Rattle.fraction.proofs.Unique.{made_only}
use Rattle.fraction.specs.Meaning.{rational}
use Rattle.fraction.proofs.generic_fraction.GenericFraction.new_signed.Goals as goal

pub returns-then-not-is_zero-clause-only : goal.returns-then-not-is_zero-clause-only
returns-then-not-is_zero-clause-only g c =
    let reduced = rw c.unwrap.ensures at c.lowest.ensures in
    made_only _ _ _ (rational _ _ _) (reduced.0, refl, reduced.1)
