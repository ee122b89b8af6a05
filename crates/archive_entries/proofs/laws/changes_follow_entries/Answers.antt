use Rattle.archive_entries.proofs.IndexLemmas.{words_are, word_list, change_comes, changes_still, changes_marked}
use Rattle.archive_entries.proofs.laws.changes_follow_entries.Goals as goal

pub returns-clause-words : goal.returns-clause-words
returns-clause-words c = words_are

pub returns-clause-list : goal.returns-clause-list
returns-clause-list c = word_list

pub returns-clause-change : goal.returns-clause-change
returns-clause-change c = change_comes

pub returns-clause-plan : goal.returns-clause-plan
returns-clause-plan c = changes_still

pub returns-clause-mark : goal.returns-clause-mark
returns-clause-mark c = changes_marked
