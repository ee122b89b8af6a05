use Rattle.std.proofs.Common.{◌≡◌, true, take}
use Rattle.std.specs.List.{list_all}
use Rattle.text_words.specs.Terms.{is_ascii_term}
use Rattle.text_words.proofs.cuts.ascii_len.Given as goal

abbrev pub invariant-loop-at : goal.invariant-loop-at
invariant-loop-at l = list_all is_ascii_term (take l.at l.bytes) ≡ true
