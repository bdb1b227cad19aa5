use Rattle.std.proofs.Common.{ℕ, ◌+◌, ◌-◌, length, [], ◌∷◌, refl, ap, ◌∙◌, subst, arith}
use Rattle.std.proofs.lemmas.Result.{err_from_is_err_and}
use borrow.Rule.Slice.PartMut.{put_mid}
use Rattle.generic.specs.Refusals.{refuses}
use Rattle.fraction.specs.Meaning.{Meaning, meant}
use Rattle.numeric.specs.Buffer.{Put, Refused}
use Rattle.numeric.specs.Bytes.{package_bytes}
use Rattle.numeric.specs.Package.{written}
use Rattle.numeric.specs.Faults.{refusal}
use Rattle.numeric.proofs.Bytes.{placed_lent}
use Rattle.numeric.proofs.Faithful.{writing_faithful}
use Rattle.numeric_write.specs.Plans.{planned}
use Rattle.numeric_write.proofs.Writing.{written_in_force}
use Rattle.numeric_write.proofs.writer.fraction_to_sql_buf.Goals as goal

pub returns-in_err-check_room : goal.returns-in_err-check_room
returns-in_err-check_room g c =
    let m : Meaning = meant g.T.CountingNumber.number c.args.source.now in
    let is = c.new-plan.ensures ∙ ap (written m) c.in_force.ensures ∙ written_in_force m c.args.precision in
    let b = c.args.buffer.now in
    let u : ℕ = c.args.used.now in
    let no_room = c.in_err-check_room.ensures in
    let p = err_from_is_err_and c.from_residual.result c.from_residual.ensures.1 in
    record {
      outcome = rw p.1 (subst (λ q. Refused q b u b u p.0) is record {
        tight = omega (arith, c.bytes_needed-needed.ensures, no_room.tight);
        fault = ap refusal p.2 ∙ no_room.fault ∙ ap (λ k. refuses 9 (k ∷ [])) c.bytes_needed-needed.ensures;
        bytes = refl;
        count = refl;
      });
      faithful = writing_faithful;
    }

pub returns : goal.returns
returns g c =
    let m : Meaning = meant g.T.CountingNumber.number c.args.source.now in
    let is = c.new-plan.ensures ∙ ap (written m) c.in_force.ensures ∙ written_in_force m c.args.precision in
    let q = planned c.new-plan.result in
    let b = c.args.buffer.now in
    let u : ℕ = c.args.used.now in
    let needed : ℕ = c.bytes_needed-needed.result in
    record {
      outcome = subst (λ q'. Put q' b u (put_mid u (length b - u) b c.put.new.part) (u + needed)) is record {
        room = omega (arith, c.bytes_needed-needed.ensures, c.in_ok-check_room.ensures.fits);
        bytes = placed_lent b c.put.new.part u (package_bytes q) c.put.ensures;
        count = ap (λ k. u + k) c.bytes_needed-needed.ensures;
      };
      faithful = writing_faithful;
    }
