use Rattle.journal_gates.proofs.SpellingLemmas.{refused_once, spelled_not_refused}
use Rattle.journal_gates.proofs.laws.a_journal_is_refused_at_one_place.Goals as goal

pub returns-clause-one_place : goal.returns-clause-one_place
returns-clause-one_place c = refused_once

pub returns-clause-not_spelled : goal.returns-clause-not_spelled
returns-clause-not_spelled c = spelled_not_refused
