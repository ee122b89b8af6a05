use Rattle.base_sample.proofs.LawLemmas.{documents}
use Rattle.base_sample.proofs.laws.samples_have_documents_in_range.Goals as goal

pub returns : goal.returns
returns c = documents
