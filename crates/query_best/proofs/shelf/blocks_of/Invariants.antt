use Rattle.std.proofs.Common.{◌≡◌, length, sum_by, take}
use Rattle.query_best.specs.Held.{heads_in}
use Rattle.query_best.proofs.shelf.blocks_of.Given as goal

abbrev pub invariant-loop-word : goal.invariant-loop-word
invariant-loop-word l = l.blocks ≡ sum_by (λ w. length (heads_in w.blocks)) (take l.word-index l.words)
