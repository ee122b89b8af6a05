use Rattle.std.proofs.Common.{length, map, All, IsTrue}
use Rattle.base_commands.specs.Documents.{HasDocument}
use Rattle.base_commands.specs.declared.command.Item.TheVariants as items
use Rattle.base_sample.specs.Laws.{MayBeSampled}
use Rattle.model_archive.specs.Worlds.{World}
use Rattle.archive_hand.specs.States.{AreInStep, Reaches}
use Rattle.run_sample.specs.Carrying.{ComesToCheck, Counts}
use Rattle.run_sample.proofs.filling.fill.Given as goal

abbrev pub invariant-commands : goal.invariant-commands
invariant-commands g l = record {
  live : IsTrue l.archive.live;
  within : Reaches (g.D.Disk.disk l.disk).reach l.archive;
  only : g.D.Disk.only l.fn.disk l.disk;
  sampled : All MayBeSampled l.rest;
  documents : All HasDocument (map items.Command l.rest);
  comes : ComesToCheck l.rest l.last;
  counts : g.D.Disk.disk_tells → (h : World) → AreInStep (g.D.Disk.disk l.fn.disk) l.fn.archive h
      → Counts h l.fn.sample l.rest l.tally l.last (g.D.Disk.disk l.fn.disk) (g.D.Disk.disk l.disk) l.archive;
}

abbrev pub decreases-commands : goal.decreases-commands
decreases-commands g l = length l.rest
