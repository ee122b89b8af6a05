use Rattle.std.proofs.Common.{◌+◌, length}
use Rattle.lists_tails.specs.Passing.{IsPassing}
use Rattle.lists_tails.proofs.tails.Tails.turn.Given as goal

abbrev pub invariant-words : goal.invariant-words
invariant-words l = IsPassing l.doc.0 l.at.seconds l.old l.new l.lost l.gained l.initial.self l.self

abbrev pub decreases-words : goal.decreases-words
decreases-words l = length l.lost + length l.gained
