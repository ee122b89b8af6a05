use Rattle.std.proofs.Common.{◌≡◌, ◌+◌, drop}
use Rattle.model_archive.specs.Steps.{first_other}
use Rattle.archive_entries.proofs.batching.first_other.Given as goal

abbrev pub invariant-loop-item : goal.invariant-loop-item
invariant-loop-item l = record {
  number : l.number ≡ l.item-index;
  rest : first_other 1 l.items ≡ first_other (l.item-index + 1) (drop l.item-index l.items);
}
