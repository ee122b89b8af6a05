use Rattle.std.proofs.Common.{◌≡◌, true, take}
use Rattle.std.specs.List.{list_all}
use Rattle.text_words.specs.Terms.{is_ascii_gap}
use Rattle.text_words.proofs.cuts.gap_len.Given as goal

abbrev pub invariant-loop-at : goal.invariant-loop-at
invariant-loop-at l = list_all is_ascii_gap (take l.at l.bytes) ≡ true
