use Rattle.std.proofs.Common.{◌≡◌, ℕ}
use Rattle.lists_tails.specs.Acts.{open_after}
use Rattle.lists_tails.specs.Gathered.{acts_of}
use Rattle.lists_tails.specs.Weights.{weight_of}
use Rattle.lists_index.specs.Newest.{weights_of}
use Rattle.lists_index.proofs.loader.newest_of.Given as goal

abbrev pub invariant-loop-turn : goal.invariant-loop-turn
invariant-loop-turn l = (w d : ℕ) → weight_of w (weights_of l.newest d) ≡ open_after (acts_of l.yielded) w d
