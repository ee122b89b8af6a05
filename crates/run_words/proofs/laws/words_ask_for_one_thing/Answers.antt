use Rattle.run_words.proofs.LawLemmas.{one_thing}
use Rattle.run_words.proofs.laws.words_ask_for_one_thing.Goals as goal

pub returns : goal.returns
returns c = one_thing
