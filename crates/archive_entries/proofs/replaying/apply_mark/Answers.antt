use Rattle.lists_index.specs.Loads.{loaded}
use Rattle.archive_entries.proofs.ReplayLemmas.{mark_over}
use Rattle.archive_entries.proofs.replaying.apply_mark.Goals as goal

pub returns-clause-more : goal.returns-clause-more
returns-clause-more c = λ h reached loads.
    mark_over c.args.head.now.gate h c.args.met.now.directory.changes c.args.met.now.plans.items c.args.met.now.marked (loaded c.args.met.now.loader) reached c.if-met.false loads
