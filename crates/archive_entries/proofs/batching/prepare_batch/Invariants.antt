use Rattle.std.proofs.Common.{◌≡◌, ◌+◌, ◌++◌, length, take, drop}
use Rattle.std.specs.List.{flat_map}
use Rattle.lists_index.specs.Indexes.{state_of}
use Rattle.model_archive.specs.Histories.{History, singles}
use Rattle.model_archive.specs.Steps.{act_of, items_cause}
use Rattle.archive_entries.specs.Batches.{AreAllowed, AreGathered, AreOf}
use Rattle.archive_entries.proofs.batching.prepare_batch.Given as goal

abbrev pub invariant-loop-item : goal.invariant-loop-item
invariant-loop-item l = record {
  number : l.number ≡ l.item-index;
  same : state_of l.index ≡ state_of l.fn.index;
  gathered : AreGathered l.directory.changes l.end (length l.items) (flat_map act_of (take l.item-index l.items)) l.batch;
  allowed : (h : History) → AreOf h l.directory.changes (state_of l.fn.index) l.end → AreAllowed h (flat_map act_of (take l.item-index l.items)) l.batch
      × (items_cause h 1 l.items ≡ items_cause (h ++ singles (flat_map act_of (take l.item-index l.items))) (l.item-index + 1) (drop l.item-index l.items));
}
