use Rattle.generic.proofs.Euclid.{SameDivisors}
use Rattle.generic.proofs.divisor.euclid.Given as goal

abbrev pub invariant-loop-rest : goal.invariant-loop-rest
invariant-loop-rest g l =
    let number = g.T.CountingNumber.number in
    SameDivisors (number l.x) (number l.y) (number l.initial.x) (number l.initial.y)

abbrev pub decreases-loop-rest : goal.decreases-loop-rest
decreases-loop-rest g l = g.T.CountingNumber.number l.y
