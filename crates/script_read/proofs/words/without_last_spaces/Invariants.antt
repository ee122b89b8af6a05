use Rattle.std.proofs.Common.{◌≡◌, ◌≤◌, length, take}
use Rattle.script_read.specs.Words.{without_last_spaces}
use Rattle.script_read.proofs.words.without_last_spaces.Given as goal

abbrev pub invariant-loop-n : goal.invariant-loop-n
invariant-loop-n l = (l.n ≤ length l.line) × (without_last_spaces (take l.n l.line) ≡ without_last_spaces l.line)

abbrev pub decreases-loop-n : goal.decreases-loop-n
decreases-loop-n l = l.n
