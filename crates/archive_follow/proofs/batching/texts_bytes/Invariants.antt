use Rattle.std.proofs.Common.{◌≡◌, ◌≤◌, ◌*◌, take, sum_by}
use Rattle.journal_entries.specs.Acts.{act_length}
use Rattle.archive_follow.proofs.batching.texts_bytes.Given as goal

abbrev pub invariant-loop-act : goal.invariant-loop-act
invariant-loop-act l = record {
  is : l.bytes ≡ sum_by act_length (take l.act-index l.acts);
  short : l.bytes ≤ l.act-index * 4194304;
}
