use Rattle.text_words.proofs.CountLemmas.{member-with_all, IsDistinct-distinct}
use Rattle.text_words.proofs.WordLemmas.{distinct-front}
use Rattle.text_words.proofs.laws.distinct_keys_stand_in_order.Goals as goal

pub returns : goal.returns
returns c = record { same = λ word found. member-with_all word _ found; once = IsDistinct-distinct; order = distinct-front }
