use Rattle.std.specs.Prelude.{refl}
use Rattle.std.proofs.Common.{arith}
use Rattle.journal_entries.specs.PlanSpelling.{plan_spelling}
use Rattle.journal_entries.proofs.laws.field_laws.Goals as goal

pub returns-clause-planned : goal.returns-clause-planned
unfolding plan_spelling
returns-clause-planned c = λ p. refl

pub returns-clause-marked : goal.returns-clause-marked
returns-clause-marked c = λ count. refl

pub returns-clause-begun : goal.returns-clause-begun
returns-clause-begun c = λ p fits. record {
  some = fits.well_cut.some;
  most = fits.well_cut.most;
  cuts = omega arith;
  places = fits.well_cut.places;
  ascend = fits.well_cut.ascend;
  word = fits.word;
  digests = fits.digests;
}
