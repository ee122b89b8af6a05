use Rattle.std.proofs.Common.{◌≡◌, ◌++◌, List, length, map, take, None}
use Rattle.journal_entries.specs.declared.act.Act.{Act}
use Rattle.journal_entries.specs.declared.entry.Entry.TheVariants.{Batch}
use Rattle.lists_index.specs.Indexes.{state_of, Indexes}
use Rattle.model_archive.specs.Histories.{History, change_by, changes, entry_refusal, singles}
use Rattle.model_archive.specs.Legal.{IsLoadable}
use Rattle.archive_entries.specs.Batches.{AreReady}
use Rattle.archive_entries.proofs.batching.take_in_all.Given as goal

abbrev pub invariant-loop-next : goal.invariant-loop-next
invariant-loop-next l = (h : History) (batch : List Act) → IsLoadable h → entry_refusal h (Batch batch) ≡ None → AreReady (changes h) (map change_by batch) l.fn.words.items → Indexes (state_of l.fn.index) (changes h)
    → Indexes (state_of l.index) (changes (h ++ singles (take (length l.yielded) batch)))
