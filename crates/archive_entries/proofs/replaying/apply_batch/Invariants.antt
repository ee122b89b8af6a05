use Rattle.std.proofs.Common.{◌≡◌, ◌+◌, ◌++◌, length, map, take}
use Rattle.lists_versions.specs.Changes.{mapped}
use Rattle.lists_index.specs.Loads.{loaded}
use Rattle.journal_entries.specs.Acts.{acts_bytes}
use Rattle.model_archive.specs.Histories.{History, singles}
use Rattle.archive_entries.specs.Places.{pair_of, placed_acts}
use Rattle.archive_entries.specs.Replaying.{AreMet}
use Rattle.archive_entries.proofs.replaying.apply_batch.Given as goal

abbrev pub invariant-loop-act : goal.invariant-loop-act
invariant-loop-act l = record {
  at_is : l.at ≡ l.head.body + 5 + length (acts_bytes (take l.act-index l.acts));
  met : (h : History) → AreMet h l.fn.met.directory.changes (loaded l.fn.met.loader) → AreMet (h ++ singles (take l.act-index l.acts)) l.met.directory.changes (loaded l.met.loader);
  placed : map (mapped pair_of) l.met.directory.changes ≡ map (mapped pair_of) l.fn.met.directory.changes ++ placed_acts (l.head.body + 5) (take l.act-index l.acts);
  plans : l.met.plans.items ≡ l.fn.met.plans.items;
  marked : l.met.marked ≡ l.fn.met.marked;
}
