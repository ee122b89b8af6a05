-- The starts of the lists so far stand, and the pages of these are counted.
use Rattle.std.specs.Prelude.{◌≡◌, ◌<◌, ℕ, length, get_or}
use Rattle.pages_sublists.specs.Paged.{pages_in_front}
use Rattle.pages_sublists.proofs.starts.starts_of.Given as goal

abbrev pub invariant-loop-spelling : goal.invariant-loop-spelling
invariant-loop-spelling l = record {
  front : l.front ≡ pages_in_front l.spellings l.spelling-index;
  as_many : length l.starts.items ≡ l.spelling-index;
  each : (k d : ℕ) → k < l.spelling-index → get_or l.starts.items k d ≡ pages_in_front l.spellings k;
}
