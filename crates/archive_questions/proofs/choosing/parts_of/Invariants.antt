use Rattle.std.proofs.Common.{◌≡◌, length, take}
use Rattle.machine_model.specs.Calls.{OnlyReads}
use Rattle.model_archive.specs.Histories.{History}
use Rattle.model_archive.specs.Chosen.{AreChosen, pieces_for}
use Rattle.archive_hand.specs.Asking.{HasAsked}
use Rattle.archive_hand.specs.States.{StandsFor, CacheStands, IsSameButCache, Reaches}
use Rattle.archive_questions.proofs.choosing.parts_of.Given as goal

abbrev pub invariant-loop-word : goal.invariant-loop-word
invariant-loop-word g l = record {
  only : g.D.Disk.only l.fn.disk l.disk;
  same : OnlyReads (g.D.Disk.disk l.fn.disk) (g.D.Disk.disk l.disk);
  but_cache : IsSameButCache l.fn.archive l.archive;
  cached : g.D.Disk.disk_tells → CacheStands (g.D.Disk.disk l.fn.disk) l.fn.archive → CacheStands (g.D.Disk.disk l.disk) l.archive;
  within : Reaches (g.D.Disk.disk l.disk).reach l.archive;
  many : length l.parts.items ≡ l.word-index;
  chosen : g.D.Disk.disk_tells → (h : History) → StandsFor l.fn.archive h → CacheStands (g.D.Disk.disk l.fn.disk) l.fn.archive
      → AreChosen h (g.D.Disk.disk l.fn.disk).holds.pages l.span.from l.span.to (take l.word-index l.words) l.parts.items;
  asked : g.D.Disk.disk_tells → (h : History) → StandsFor l.fn.archive h → CacheStands (g.D.Disk.disk l.fn.disk) l.fn.archive
      → HasAsked (pieces_for h (g.D.Disk.disk l.fn.disk).holds.pages l.span.from l.span.to (take l.word-index l.words)) l.fn.archive.shelf.cache l.archive.shelf.cache (g.D.Disk.disk l.fn.disk) (g.D.Disk.disk l.disk);
}
