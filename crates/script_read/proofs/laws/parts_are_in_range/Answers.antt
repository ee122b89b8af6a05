use Rattle.script_read.proofs.Ranges.{Items-documents}
use Rattle.script_read.proofs.laws.parts_are_in_range.Goals as goal

pub returns : goal.returns
returns c = Items-documents
