use Rattle.std.proofs.Common.{⊎_elim, arith}
use Rattle.numeric_write.proofs.Filling.{finished_skip, finished_put}
use Rattle.numeric_write.proofs.group_sink.filling.put_last.Goals as goal

pub returns-then-last-eq0 : goal.returns-then-last-eq0
returns-then-last-eq0 c before l = finished_skip before c.args.buffer.now c.args.count c.args.last l (omega arith) (omega arith)

pub returns : goal.returns
returns c before l =
    rw c.put_word.ensures (finished_put before c.args.buffer.now c.args.count c.args.last l c.requires.room c.requires.small
    (λ z. ⊎_elim (λ w. omega (arith, w.1)) (λ w. absurd (w z)) c.else-count-eq0.either))
