use Rattle.std.proofs.Common.{append_assoc, refl}
use Rattle.journal_entries.specs.PlanBytes.{plan_bytes}
use Rattle.journal_entries.proofs.plan_writing.put_front.Goals as goal

pub returns : goal.returns
unfolding plan_bytes
returns c =
    rw (
      c.in_ok-extend_from_slice-5.ensures.items,
      c.in_ok-extend_from_slice-4.ensures.items,
      c.in_ok-push-3.ensures.items,
      c.in_ok-extend_from_slice-3.ensures.items,
      c.in_ok-extend_from_slice-2.ensures.items,
      c.in_ok-extend_from_slice.ensures.items,
      c.in_ok-put_kind.ensures,
      c.in_ok-push-2.ensures.items,
      c.in_ok-push.ensures.items,
    )
    (simp append_assoc
    (rw (c.layout_byte.ensures, c.to_be_bytes.ensures, c.over.ensures.value, c.to_be_bytes-2.ensures, c.under.ensures.value, c.to_be_bytes-3.ensures, c.seconds.ensures.value, c.as_bytes.ensures.value, c.as_str-word.ensures.value, c.to_be_bytes-4.ensures, c.as_slice.ensures) refl))
