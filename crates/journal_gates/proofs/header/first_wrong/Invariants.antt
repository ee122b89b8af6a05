use Rattle.std.proofs.Common.{◌≡◌, take}
use Rattle.journal_gates.specs.Header.{header}
use Rattle.journal_gates.proofs.header.first_wrong.Given as goal

abbrev pub invariant-loop-at : goal.invariant-loop-at
invariant-loop-at l = take l.at l.bytes ≡ take l.at header
