use Rattle.std.proofs.Common.{◌≡◌, ◌+◌, ◌≤◌, length, take, drop}
use Rattle.text_words.specs.Words.{with_all}
use Rattle.lists_index.proofs.numbering.number_all.Given as goal

abbrev pub invariant-loop-key : goal.invariant-loop-key
invariant-loop-key l = record {
  words : l.vocabulary.words ≡ with_all l.fn.vocabulary.words (take (length l.yielded) l.fn.fresh.items);
  room : length (with_all l.vocabulary.words (drop (length l.yielded) l.fn.fresh.items)) ≤ length l.vocabulary.words + l.vocabulary.spare;
}
