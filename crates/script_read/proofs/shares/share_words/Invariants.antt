use Rattle.std.proofs.Common.{◌≡◌, ◌≤◌, ◌-◌, length}
use Rattle.script_read.specs.Values.{texts}
use Rattle.script_read.proofs.ShareLemmas.{joined_to}
use Rattle.script_read.proofs.shares.share_words.Given as goal

abbrev pub invariant-words : goal.invariant-words
invariant-words l = record {
  few : length l.words.items ≤ 16;
  short : length l.rest ≤ 4096;
  so_far : joined_to l.words.items (texts (16 - length l.words.items) l.rest) ≡ texts 16 l.line;
}

abbrev pub decreases-words : goal.decreases-words
decreases-words l = 16 - length l.words.items
