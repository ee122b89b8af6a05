use Rattle.std.proofs.Common.{◌≡◌, ◌++◌, map, take}
use Rattle.query_eval.specs.Facts.{word_fact}
use Rattle.query_eval.proofs.facts.note_word.Given as goal

abbrev pub invariant-loop-p : goal.invariant-loop-p
invariant-loop-p l = l.facts.items ≡ l.fn.facts.items ++ map (word_fact l.shows l.place) (take l.p-index l.list)
