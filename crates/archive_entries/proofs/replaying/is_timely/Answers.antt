use Rattle.std.proofs.Common.{◌∙◌, sym}
use Rattle.archive_entries.proofs.ReplayLemmas.{timely_at}
use Rattle.archive_entries.proofs.replaying.is_timely.Goals as goal

pub returns-in-Some : goal.returns-in-Some
returns-in-Some c =
    timely_at c.args.directory.now.changes c.args.plan.now c.in-Some.last c.is_by.result (sym c.last.ensures ∙ c.in-Some.is) c.is_by.ensures
