use Rattle.std.proofs.Common.{sym, ap, ◌∙◌}
use Rattle.fraction.specs.Meaning.{meant}
use Rattle.numeric.specs.Package.{bare, written}
use Rattle.numeric_write.proofs.Writing.{written_infinity, written_nan}
use Rattle.numeric_write.proofs.plan.Plan.new.Goals as goal

pub returns-in-Infinity : goal.returns-in-Infinity
returns-in-Infinity g c =
    ap bare c.of_infinity.ensures ∙ sym (written_infinity c.in-Infinity.sign c.args.precision.digits)
    ∙ ap (λ f. written (meant g.T.CountingNumber.number f) c.args.precision.digits) (sym c.in-Infinity.is)

pub returns-in-NaN : goal.returns-in-NaN
returns-in-NaN g c = sym (written_nan c.args.precision.digits) ∙ ap (λ f. written (meant g.T.CountingNumber.number f) c.args.precision.digits) (sym c.in-NaN.is)
