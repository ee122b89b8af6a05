use Rattle.lists_postings.proofs.StretchExistence.{each-has}
use Rattle.lists_postings.proofs.stretch_laws.each_has_stretches.Goals as goal

pub returns : goal.returns
returns g c = each-has
