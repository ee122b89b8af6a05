use Rattle.script_items.proofs.GroupLemmas.{joined}
use Rattle.script_items.proofs.Ranges.{Items-documents}
use Rattle.script_items.proofs.laws.items_are_in_range.Goals as goal

pub returns : goal.returns
returns c = record { documents = Items-documents; joined = joined }
