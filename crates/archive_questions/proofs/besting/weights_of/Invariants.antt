use Rattle.std.specs.Prelude.{◌≡◌, map, take}
use Rattle.query_lang.specs.Meaning.{weight, words_of}
use Rattle.archive_questions.proofs.besting.weights_of.Given as goal

abbrev pub invariant-loop-k : goal.invariant-loop-k
invariant-loop-k l = l.weights.items ≡ map (weight l.query) (take l.k (words_of l.query))
