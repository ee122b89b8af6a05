use Rattle.model_archive.proofs.ChosenLemmas.{made_at, made_over, held_undamaged, unplanned_alive}
use Rattle.model_archive.proofs.laws.what_is_made_of_held_pages_stands.Goals as goal

pub returns : goal.returns
returns c = record { at = made_at; over = made_over; undamaged = held_undamaged; alive = unplanned_alive }
