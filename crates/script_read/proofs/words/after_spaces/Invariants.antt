use Rattle.std.proofs.Common.{◌≡◌, ◌≤◌, ◌-◌, length, drop}
use Rattle.script_read.specs.Words.{after_spaces}
use Rattle.script_read.proofs.words.after_spaces.Given as goal

abbrev pub invariant-loop-n : goal.invariant-loop-n
invariant-loop-n l = (l.n ≤ length l.line) × (after_spaces (drop l.n l.line) ≡ after_spaces l.line)

abbrev pub decreases-loop-n : goal.decreases-loop-n
decreases-loop-n l = length l.line - l.n
