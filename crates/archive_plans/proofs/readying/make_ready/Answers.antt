use Rattle.std.proofs.Common.{length, ap, arith}
use Rattle.std.proofs.lemmas.List.{length-map}
use Rattle.base_types.specs.declared.time.Time.{Time}
use Rattle.journal_entries.specs.declared.place.Layout.TheVariants.{Blocks}
use Rattle.pages_sublists.specs.Segments.{seconds}
use Rattle.pages_sublists.proofs.WriteLemmas.{as_many}
use Rattle.model_archive.proofs.StoringLemmas.{spellings_long}
use Rattle.archive_plans.proofs.readying.make_ready.Goals as goal

pub spell_entry-requires-clause-many : goal.spell_entry-requires-clause-many
spell_entry-requires-clause-many c =
    omega (
      arith,
      ap length c.places.ensures.value,
      as_many c.in-Ok.prepared.places c.in-Ok.prepared.spellings c.in-Ok.ensures.each,
      ap length c.in-Ok.ensures.spelled,
      spellings_long Blocks c.deref.result.now (seconds c.deref-2.result.now) c.args.draft.horizon.seconds,
      length-map c.deref-2.result.now (λ (t : Time). t.seconds),
      ap length c.deref-2.ensures.value,
    )
