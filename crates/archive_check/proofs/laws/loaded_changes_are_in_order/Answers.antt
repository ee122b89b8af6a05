use Rattle.archive_check.proofs.LawLemmas.{loaded_in_order}
use Rattle.archive_check.proofs.laws.loaded_changes_are_in_order.Goals as goal

pub returns : goal.returns
returns c = loaded_in_order
