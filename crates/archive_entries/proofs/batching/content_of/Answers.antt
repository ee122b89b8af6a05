use Rattle.archive_entries.proofs.BatchingLemmas.{content_is}
use Rattle.archive_entries.proofs.batching.content_of.Goals as goal

pub returns-in-Bytes : goal.returns-in-Bytes
returns-in-Bytes c = content_is c.args.text.now c.in-Bytes.text c.text_of.result c.in-Bytes.is (rw c.as_slice.ensures.value at c.text_of.ensures)
