use Rattle.std.proofs.Common.{◌≡◌, ◌≤◌, length, drop, None}
use Rattle.query_lang.specs.Tokens.{parted}
use Rattle.query_lang.proofs.token.last_caret.Given as goal

abbrev pub invariant-loop-i : goal.invariant-loop-i
invariant-loop-i l = record { within : l.i ≤ length l.bytes; none : parted (drop l.i l.bytes) ≡ None }

abbrev pub decreases-loop-i : goal.decreases-loop-i
decreases-loop-i l = l.i
