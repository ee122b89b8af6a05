use Rattle.std.proofs.Common.{refl}
use Rattle.base_sample.specs.Samples.{sample_of}
use Rattle.base_sample.proofs.sample.Sample.new.Goals as goal

pub returns : goal.returns
unfolding sample_of
returns c = refl
