-- Which failures end a run that has begun.
use Rattle.depthpack.specs.declared.failure.Failure.{Failure}
use Rattle.depthpack.specs.declared.failure.Failure.TheVariants.{Arguments, UnknownOption, SeveralFiles, Open, Read, Write}

abbrev pub OfRun : Failure → Type 0
OfRun (Arguments e) = ⊥
OfRun (UnknownOption s) = ⊥
OfRun SeveralFiles = ⊥
OfRun (Open path e) = ⊥
OfRun (Read e) = Unit {0}
OfRun (Write e) = Unit {0}
