use Rattle.text_words.specs.Terms.{keys}
use Rattle.text_words.proofs.CountLemmas.{lookup-counted}
use Rattle.text_words.proofs.laws.counts_are_frequencies.Goals as goal

pub returns : goal.returns
returns c = λ word text. lookup-counted word (keys text)
