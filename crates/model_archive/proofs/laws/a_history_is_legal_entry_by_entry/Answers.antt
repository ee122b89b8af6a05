use Rattle.model_archive.proofs.HistoryLemmas.{legal-push, legal-middle, legal_loads, end_of_is}
use Rattle.model_archive.proofs.laws.a_history_is_legal_entry_by_entry.Goals as goal

pub returns : goal.returns
returns c = record { more = legal-push; middle = legal-middle; loads = legal_loads; end = end_of_is }
