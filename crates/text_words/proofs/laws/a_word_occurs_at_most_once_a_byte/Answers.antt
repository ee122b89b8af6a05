use Rattle.text_words.proofs.FrequencyLemmas.{occurrences-le}
use Rattle.text_words.proofs.laws.a_word_occurs_at_most_once_a_byte.Goals as goal

pub returns : goal.returns
returns c = occurrences-le
