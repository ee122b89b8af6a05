use Rattle.std.specs.Prelude.{◌≡◌, take}
use Rattle.journal_packets.proofs.case.compared.Given as goal

abbrev pub invariant-loop-place : goal.invariant-loop-place
invariant-loop-place l = take l.place l.kept ≡ take l.place l.got
