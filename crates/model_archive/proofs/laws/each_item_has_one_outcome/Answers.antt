use Rattle.model_archive.proofs.OutcomeLemmas.{each_outcome, one_outcome_only, one_but_chosen, planned_alike, step_loads, step_legal}
use Rattle.model_archive.proofs.laws.each_item_has_one_outcome.Goals as goal

pub returns : goal.returns
returns c = record { outcome = each_outcome; one = one_outcome_only; but_chosen = one_but_chosen; plans = planned_alike; loads = step_loads; legal = step_legal }
