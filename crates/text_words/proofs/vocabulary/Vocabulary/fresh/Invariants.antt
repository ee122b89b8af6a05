use Rattle.std.proofs.Common.{◌≡◌, ◌++◌, take}
use Rattle.text_words.specs.Words.{with_all}
use Rattle.text_words.proofs.vocabulary.Vocabulary.fresh.Given as goal

abbrev pub invariant-loop-key : goal.invariant-loop-key
invariant-loop-key l = with_all l.self.words (take l.key-index l.keys) ≡ l.self.words ++ l.fresh.keys
