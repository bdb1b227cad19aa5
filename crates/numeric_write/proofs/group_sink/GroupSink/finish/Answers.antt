use Rattle.std.proofs.Common.{◌≡◌, ℕ, ◌*◌, ◌^◌, List, sym, ap, ◌∙◌, subst, arith}
use Rattle.numeric_write.specs.Laid.{Finished, held, filler}
use Rattle.numeric_write.proofs.Filling.{finished_none, held_filled}
use Rattle.numeric_write.proofs.group_sink.GroupSink.finish.Goals as goal
use Rattle.numeric_write.proofs.group_sink.GroupSink.finish.Goals.{then-places-gt0, else-places-gt0}

pub returns : goal.returns
returns c before l =
    let s = c.args.self in
    let b : List ℕ = s.buffer.now in
    let h : ℕ = held b s.count s.places s.group * 10 ^ filler s.places in
    elim c.if-places-gt0.branch [
      | then-places-gt0 w ↦
          let e : held b s.count 4 w.filled.result ≡ h =
          ap (held b s.count 4) w.filled.ensures.0 ∙ held_filled b s.count s.places s.group w.if-places-gt0.true s.open in
          subst (λ x. Finished before x h) (sym w.buffer-is) (subst (Finished before w.put_last.new.buffer) e (w.put_last.ensures before l))
      | else-places-gt0 w ↦
          subst (λ x. Finished before x h) (sym w.buffer-is) (finished_none before b s.count s.places s.group l (omega arith) s.below)
    ]
