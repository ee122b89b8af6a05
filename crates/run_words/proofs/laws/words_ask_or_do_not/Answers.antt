use Rattle.run_words.proofs.LawLemmas.{ask_or_not}
use Rattle.run_words.proofs.laws.words_ask_or_do_not.Goals as goal

pub returns : goal.returns
returns c = ask_or_not
