use Rattle.text_words.specs.Terms.{keys}
use Rattle.text_words.proofs.WeightLemmas.{weight-times, weights-distinct, weights-counts}
use Rattle.text_words.proofs.laws.weights_are_frequencies.Goals as goal

pub returns : goal.returns
returns c = record {
  each = λ words text. weight-times words (keys text);
  once = λ words text. weights-distinct words (keys text);
  occur = λ words text. weights-counts words (keys text);
}
