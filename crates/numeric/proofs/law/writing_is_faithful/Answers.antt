use Rattle.numeric.proofs.Faithful.{writing_faithful}
use Rattle.numeric.proofs.law.writing_is_faithful.Goals as goal

pub returns : goal.returns
returns c = writing_faithful
