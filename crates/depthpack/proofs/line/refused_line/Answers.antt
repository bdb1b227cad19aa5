use Rattle.std.proofs.Common.{[], ◌∷◌, ◌++◌, sym, ap, ◌∙◌}
use Rattle.std.specs.Fmt.{digits}
use Rattle.record.specs.Faults.{line_of}
use Rattle.record.specs.declared.fault.RecordFault.TheVariants.{Refused}
use Rattle.depthpack.proofs.line.refused_line.Goals as goal

-- The number of each refusal, written in decimal.
pub returns-in-NotDecimal-clause-line : goal.returns-in-NotDecimal-clause-line
unfolding digits
returns-in-NotDecimal-clause-line c = c.put_text.ensures.line ∙ ap (λ f. line_of (Refused f) ++ 10 ∷ []) (sym c.in-NotDecimal.is)

pub returns-in-DoesNotFit-clause-line : goal.returns-in-DoesNotFit-clause-line
unfolding digits
returns-in-DoesNotFit-clause-line c = c.put_text-in-DoesNotFit.ensures.line ∙ ap (λ f. line_of (Refused f) ++ 10 ∷ []) (sym c.in-DoesNotFit.is)
