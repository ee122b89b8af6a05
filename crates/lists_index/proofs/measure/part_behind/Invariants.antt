use Rattle.std.proofs.Common.{◌≡◌, ◌++◌, map}
use Rattle.text_words.specs.Words.{known_of, fresh_of}
use Rattle.lists_index.proofs.Behind.{shifted}
use Rattle.lists_index.proofs.measure.part_behind.Given as goal

abbrev pub invariant-loop-key : goal.invariant-loop-key
invariant-loop-key l = record {
  known : l.known.items ≡ l.fn.weighed.known.items ++ shifted l.words (known_of l.brought.words l.yielded);
  keys : l.keys.items ≡ map (λ e. e.0) (fresh_of l.brought.words l.yielded);
  counts : l.counts.items ≡ map (λ e. e.1) (fresh_of l.brought.words l.yielded);
}
