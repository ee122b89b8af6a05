use Rattle.std.proofs.Common.{rules}
use Rattle.archive_entries.proofs.BatchingLemmas.{none_gathered}
use Rattle.archive_entries.proofs.batching.Gathered.new.Goals as goal

pub returns-clause-gathered : goal.returns-clause-gathered
returns-clause-gathered c = λ before end. none_gathered before end c.args.count _ (c.new.ensures.counted before) c.new.ensures.changes (search rules)
