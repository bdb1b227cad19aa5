use Rattle.division.proofs.serve.serve_opened.Goals as goal

pub returns : goal.returns
returns g c = record { run = c.serve_on.ensures; leading = c.serve_on.ensures.leading tt }
