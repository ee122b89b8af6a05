use Rattle.std.proofs.Common.{◌≡◌, ◌-◌}
use Rattle.journal_entries.specs.Reading.{acts_at}
use Rattle.journal_entries.proofs.BatchLemmas.{behind}
use Rattle.journal_entries.proofs.batch_reading.acts_at.Given as goal

abbrev pub invariant-loop : goal.invariant-loop
invariant-loop l = behind l.acts.items (acts_at (l.count - l.counter) l.rest) ≡ acts_at l.count l.bytes
