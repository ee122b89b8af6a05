use Rattle.archive_entries.proofs.PlaceLemmas.{bare_changes, placed_more, placed_plan, placed_mark, texts_are}
use Rattle.archive_entries.proofs.laws.places_follow_entries.Goals as goal

pub returns-clause-alike : goal.returns-clause-alike
returns-clause-alike c = bare_changes

pub returns-clause-texts : goal.returns-clause-texts
returns-clause-texts c = texts_are

pub returns-clause-change : goal.returns-clause-change
returns-clause-change c = placed_more

pub returns-clause-plan : goal.returns-clause-plan
returns-clause-plan c = placed_plan

pub returns-clause-mark : goal.returns-clause-mark
returns-clause-mark c = placed_mark
