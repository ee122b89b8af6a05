use Rattle.text_words.proofs.RunLemmas.{runs-stretch, runs-parted}
use Rattle.text_words.proofs.laws.runs_are_maximal_stretches.Goals as goal

pub returns : goal.returns
returns c = record { stretch = runs-stretch; parted = runs-parted }
