use Rattle.model_archive.proofs.BoundLemmas.{holders_are_documents, planned_bounded}
use Rattle.model_archive.proofs.laws.planned_reads_are_bounded.Goals as goal

pub returns : goal.returns
returns c = record { postings = planned_bounded; documents = holders_are_documents }
