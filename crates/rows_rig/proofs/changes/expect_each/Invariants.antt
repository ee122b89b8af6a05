use Rattle.archive_hand.specs.States.{Reaches}
use Rattle.machine_mem.specs.Meaning.{disk_state}
use Rattle.rows_rig.proofs.changes.expect_each.Given as goal

-- the disk reaches as far as the archive
abbrev pub invariant-loop-change : goal.invariant-loop-change
invariant-loop-change l = Reaches (disk_state l.machine).reach l.archive
