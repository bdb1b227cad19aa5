use Rattle.division.specs.Runs.{fraction, refused}
use Rattle.division.specs.declared.state.Division.TheVariants.{Fraction}
use Rattle.division.proofs.Serving.{steps, integrated}
use Rattle.division.proofs.serve.next.Goals as goal

pub returns-in-Whole : goal.returns-in-Whole
returns-in-Whole g c =
    integrated _ _ _ c.in-Whole.state _ _ c.divide_integral.result c.in-Whole.is c.divide_integral.ensures

pub returns-in-Ok : goal.returns-in-Ok
returns-in-Ok g c =
    let went = c.in-Ok.ensures.resumes in
    steps _ _ (Fraction c.in-Fraction.state) _ _ _ (Fraction c.in-Ok.resumed.state) fraction c.in-Fraction.is went.2 went.0 tt went.1

pub returns-in-Err : goal.returns-in-Err
returns-in-Err g c =
    let went = c.in-Err.ensures.resumes in
    steps _ _ (Fraction c.in-Fraction.state) _ _ _ (Fraction c.in-Err.refused.state) (refused c.in-Err.refused.fault) c.in-Fraction.is went.5 went.1 tt went.2
