use Rattle.std.proofs.Common.{ap, sym, ◌∙◌, ◌++◌}
use Rattle.text_words.specs.Terms.{keys}
use Rattle.text_words.specs.Words.{with_all}
use Rattle.text_words.proofs.NewLemmas.{fresh-keys, with_all-new, with_all-behind}
use Rattle.text_words.proofs.laws.fresh_words_get_the_next_numbers.Goals as goal

pub returns : goal.returns
returns c = record {
  all = λ words text. ap (with_all words) (fresh-keys words (keys text)) ∙ with_all-new words (keys text);
  behind = λ words text. with_all-behind words (keys text) ∙ ap (λ l. words ++ l) (sym (fresh-keys words (keys text)));
}
