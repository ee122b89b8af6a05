use Rattle.std.proofs.Common.{◌≡◌, ◌+◌, length, take}
use Rattle.machine_model.specs.Calls.{OnlyReads}
use Rattle.pages_sublists.specs.declared.why.Damage.{Damage}
use Rattle.query_best.specs.Held.{IsBadOf}
use Rattle.model_archive.specs.Chosen.{pieces_for}
use Rattle.model_archive.specs.Histories.{History}
use Rattle.model_archive.specs.Holding.{HoldsPlans}
use Rattle.archive_hand.specs.Asking.{HasAsked}
use Rattle.archive_hand.specs.States.{StandsFor, CacheStands, IsSameButCache, Reaches}
use Rattle.archive_questions.specs.Bests.{AreHeld, IsDamagedAmong}
use Rattle.archive_questions.proofs.holding.held_of_all.Given as goal

abbrev pub invariant-loop-word : goal.invariant-loop-word
invariant-loop-word g l = record {
  only : g.D.Disk.only l.fn.disk l.disk;
  same : OnlyReads (g.D.Disk.disk l.fn.disk) (g.D.Disk.disk l.disk);
  but_cache : IsSameButCache l.fn.archive l.archive;
  cached : g.D.Disk.disk_tells → CacheStands (g.D.Disk.disk l.fn.disk) l.fn.archive → CacheStands (g.D.Disk.disk l.disk) l.archive;
  within : Reaches (g.D.Disk.disk l.disk).reach l.archive;
  many : length l.held.items ≡ l.word-index;
  held : g.D.Disk.disk_tells → (h : History) → StandsFor l.fn.archive h → CacheStands (g.D.Disk.disk l.fn.disk) l.fn.archive → HoldsPlans h (g.D.Disk.disk l.fn.disk).holds.pages
      → AreHeld h l.t.seconds (take l.word-index l.words) l.held.items l.read;
  bad : g.D.Disk.disk_tells → (h : History) → StandsFor l.fn.archive h → CacheStands (g.D.Disk.disk l.fn.disk) l.fn.archive → (damage : Damage) → IsBadOf l.held.items damage
      → IsDamagedAmong h (g.D.Disk.disk l.fn.disk).holds.pages l.t.seconds (take l.word-index l.words) damage;
  asked : g.D.Disk.disk_tells → (h : History) → StandsFor l.fn.archive h → CacheStands (g.D.Disk.disk l.fn.disk) l.fn.archive
      → HasAsked (pieces_for h (g.D.Disk.disk l.fn.disk).holds.pages l.t.seconds (l.t.seconds + 1) (take l.word-index l.words)) l.fn.archive.shelf.cache l.archive.shelf.cache (g.D.Disk.disk l.fn.disk) (g.D.Disk.disk l.disk);
}
