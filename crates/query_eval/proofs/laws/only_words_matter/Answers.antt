use Rattle.std.specs.Prelude.{◌≡◌, true}
use Rattle.query_eval.proofs.GivenLemmas.{only_words_matter}
use Rattle.query_eval.proofs.laws.only_words_matter.Goals as goal

pub returns : goal.returns
returns c = λ is_alive often other query rows same a. only_words_matter (λ doc. is_alive doc ≡ true) often other query rows same a
