use Rattle.std.proofs.Common.{append_assoc}
use Rattle.journal_entries.proofs.batch_writing.put_change.Goals as goal

pub returns : goal.returns
returns c =
    rw (c.in_ok-extend_from_slice-2.ensures.items, c.to_be_bytes-2.ensures, c.in_ok-extend_from_slice.ensures.items, c.to_be_bytes.ensures, c.in_ok-push.ensures.items, c.seconds.ensures.value)
    (simp append_assoc)
