use Rattle.std.proofs.Common.{◌<◌, map, sum_by, refl, ap, arith, ◌∙◌}
use Rattle.base_commands.specs.Batches.{texts_bytes}
use Rattle.journal_entries.specs.Acts.{act_length}
use Rattle.model_archive.specs.Histories.{most_batch}
use Rattle.journal_entries.specs.declared.entry.Entry.TheVariants as entries
use Rattle.archive_hand.specs.Adding.{IsSpentBut}
use Rattle.archive_changes.specs.Endings.{plainly}
use Rattle.archive_hand.proofs.ByReadsLemmas.{keeps_nowhere}
use Rattle.archive_follow.specs.Taken.{item_by}
use Rattle.archive_follow.proofs.BatchLemmas.{batch_by_reads, batch_takes, long_never, texts_back}
use Rattle.archive_follow.proofs.TakenLemmas.{after_none, after_starved, after_taken, not_next, spells_no_next, takes_none, takes_starved}
use Rattle.archive_follow.proofs.batching.take_batch.Goals as goal

-- ---- its texts are together too long

pub returns-then-bytes-gt-MOST_BATCH_BYTES-clause-after : goal.returns-then-bytes-gt-MOST_BATCH_BYTES-clause-after
returns-then-bytes-gt-MOST_BATCH_BYTES-clause-after g c = after_none _ _ _ _ refl c.requires.within c.requires.live

pub returns-then-bytes-gt-MOST_BATCH_BYTES-clause-takes : goal.returns-then-bytes-gt-MOST_BATCH_BYTES-clause-takes
returns-then-bytes-gt-MOST_BATCH_BYTES-clause-takes g c = λ h stands.
    let long : most_batch < sum_by act_length c.args.acts.now = omega (arith, c.texts_bytes-bytes.ensures, ap (sum_by act_length) c.as_slice.ensures, c.if-bytes-gt-MOST_BATCH_BYTES.true) in
    takes_none h _ c.args.archive.now stands (spells_no_next h (entries.Batch c.args.acts.now) _ c.requires.ranges refl (long_never h c.args.acts.now long))

pub returns-then-bytes-gt-MOST_BATCH_BYTES-clause-by_reads : goal.returns-then-bytes-gt-MOST_BATCH_BYTES-clause-by_reads
returns-then-bytes-gt-MOST_BATCH_BYTES-clause-by_reads g c = λ tells s in_step. in_step

-- ---- a batch of its items

pub new-requires-clause-short : goal.new-requires-clause-short
new-requires-clause-short g c =
    let is = c.in-Ok.ensures ∙ ap (map item_by) c.as_slice-2.ensures in
    omega (arith, ap texts_bytes is, texts_back c.args.acts.now, c.texts_bytes-bytes.ensures, ap (sum_by act_length) c.as_slice.ensures, c.if-bytes-gt-MOST_BATCH_BYTES.false)

pub returns-in-Ok-clause-after : goal.returns-in-Ok-clause-after
returns-in-Ok-clause-after g c = rw c.taken_all.ensures (after_taken IsSpentBut _ _ _ (plainly c.batch.result) _ _ c.args.archive.now c.batch.new.archive (λ spent. spent) (λ both. both.1) c.batch.ensures.after)

pub returns-in-Ok-clause-takes : goal.returns-in-Ok-clause-takes
returns-in-Ok-clause-takes g c = λ h stands.
    rw c.taken_all.ensures (batch_takes h c.args.acts.now c.new.result c.batch.result c.args.archive.now c.batch.new.archive c.requires.ranges (c.new.ensures ∙ c.in-Ok.ensures ∙ ap (map item_by) c.as_slice-2.ensures) stands (λ why is. (c.batch.ensures.after.same why is).0) (c.batch.ensures.adds h stands))

pub returns-in-Ok-clause-by_reads : goal.returns-in-Ok-clause-by_reads
returns-in-Ok-clause-by_reads g c = λ tells s in_step.
    rw c.taken_all.ensures (batch_by_reads s c.args.acts.now c.new.result c.batch.result _ _ c.args.archive.now c.batch.new.archive c.requires.ranges (c.new.ensures ∙ c.in-Ok.ensures ∙ ap (map item_by) c.as_slice-2.ensures) in_step
    (not_next (plainly c.batch.result) _ (λ why is. let same = c.batch.ensures.after.same why is in (same.0, ap g.D.Disk.disk same.1))) (c.batch.ensures.by_reads tells s in_step))

-- ---- want of memory

pub returns-in-Err-clause-after : goal.returns-in-Err-clause-after
returns-in-Err-clause-after g c = after_starved _ _ _ c.args.archive.now c.give_up.new.self refl c.give_up.ensures.1 c.requires.within

pub returns-in-Err-clause-takes : goal.returns-in-Err-clause-takes
returns-in-Err-clause-takes g c = λ h stands. takes_starved h _ c.give_up.new.self

pub returns-in-Err-clause-by_reads : goal.returns-in-Err-clause-by_reads
returns-in-Err-clause-by_reads g c = λ tells s in_step. keeps_nowhere _ c.args.archive.now s in_step
