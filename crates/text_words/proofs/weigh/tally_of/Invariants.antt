use Rattle.std.proofs.Common.{◌≡◌, ◌≤◌, ◌++◌, List, ℕ, chars, length}
use Rattle.text_words.specs.Terms.{runs}
use Rattle.text_words.specs.Weighing.{IsTallied}
use Rattle.text_words.proofs.weigh.tally_of.Given as goal

abbrev pub invariant-loop-run : goal.invariant-loop-run
invariant-loop-run l = (done : List (List ℕ)) × (done ++ l.runs ≡ runs (chars l.text)) × IsTallied l.vocabulary.words l.places l.tally done × (length l.vocabulary.words ≤ length l.places)

abbrev pub decreases-loop-run : goal.decreases-loop-run
decreases-loop-run l = length l.runs
