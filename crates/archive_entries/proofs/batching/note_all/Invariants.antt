use Rattle.std.proofs.Common.{◌≡◌, ◌+◌, ◌≤◌, ◌++◌, length, take}
use Rattle.archive_entries.proofs.batching.note_all.Given as goal

abbrev pub invariant-loop-change : goal.invariant-loop-change
invariant-loop-change l = record {
  changes : l.directory.changes ≡ l.fn.directory.changes ++ take l.change-index l.changes;
  room : length l.changes ≤ l.directory.room + l.change-index;
}
