use Rattle.journal_gates.proofs.SpellingLemmas.{spells_once}
use Rattle.journal_gates.proofs.laws.a_journal_spells_one_list.Goals as goal

pub returns-clause-one_list : goal.returns-clause-one_list
returns-clause-one_list c = spells_once
