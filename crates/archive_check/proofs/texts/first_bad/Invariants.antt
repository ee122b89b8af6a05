-- The first so far that isn't UTF-8.
use Rattle.std.specs.Prelude.{◌∷◌, take}
use Rattle.machine_model.specs.Calls.{OnlyReads}
use Rattle.lists_versions.specs.Changes.{mapped}
use Rattle.archive_entries.specs.Texts.{text_in}
use Rattle.archive_check.specs.Verdicts.{with_texts, IsText, IsFirstBad}
use Rattle.archive_check.proofs.texts.first_bad.Given as goal

abbrev pub invariant-loop-change : goal.invariant-loop-change
invariant-loop-change g l = record {
  only : g.D.Disk.only l.fn.disk l.disk;
  same : OnlyReads (g.D.Disk.disk l.fn.disk) (g.D.Disk.disk l.disk);
  bad : g.D.Disk.disk_tells → ¬ (IsText (mapped (text_in (g.D.Disk.disk l.fn.disk).holds.journal) l.fn.first))
      → IsFirstBad (with_texts (g.D.Disk.disk l.fn.disk).holds.journal (l.fn.first ∷ take l.change-index l.changes)) l.bad.doc l.bad.at;
}
