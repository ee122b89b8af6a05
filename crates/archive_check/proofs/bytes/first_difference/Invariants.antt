-- The bytes so far are the same.
use Rattle.std.specs.Prelude.{◌≡◌, take}
use Rattle.archive_check.proofs.bytes.first_difference.Given as goal

abbrev pub invariant-loop-at : goal.invariant-loop-at
invariant-loop-at l = take l.at l.found ≡ take l.at l.wanted
