use Rattle.std.proofs.Common.{ap, refl}
use Rattle.base_commands.specs.declared.command.Item.TheVariants as items
use Rattle.model_archive.specs.declared.refusal.Refusal.TheVariants as refusals
use Rattle.archive_hand.specs.States.{ArchiveState}
use Rattle.run_script.proofs.OutcomeLemmas.{answers_by, begun_left, refused_by}
use Rattle.run_script.proofs.answer.answer.Goals as goal

pub returns-in-Format-clause-outcome : goal.returns-in-Format-clause-outcome
returns-in-Format-clause-outcome g c = λ tells s in_step. rw (c.in-Command.is, c.in-Format.is) (answers_by s _ _ _ _ _ _ _ (c.mark_format-result.ensures.by_reads tells s in_step) c.write_change-in-Format.ensures.writes)

pub returns-in-Batch-clause-outcome : goal.returns-in-Batch-clause-outcome
returns-in-Batch-clause-outcome g c = λ tells s in_step. rw (c.in-Command.is, c.in-Batch.is) (answers_by s _ _ _ _ _ _ _ (c.batch-result.ensures.by_reads tells s in_step) c.write_batch.ensures.writes)

pub returns-in-Begin-clause-outcome : goal.returns-in-Begin-clause-outcome
returns-in-Begin-clause-outcome g c = λ tells s in_step. rw (c.in-Command.is, c.in-Begin.is) (answers_by s _ _ _ _ _ _ _ (c.begin-result.ensures.by_reads _ s in_step) c.write_begun.ensures.writes)

pub returns-in-Begin-clause-left : goal.returns-in-Begin-clause-left
returns-in-Begin-clause-left g c =
    begun_left _ c.write_begun.result (g.D.Disk.disk c.args.disk.now) c.args.archive.now c.begin-result.new.archive c.requires.ready (ap (λ (a : ArchiveState). a.live) c.begin-result.ensures.same) (c.begin-result.ensures.within (g.D.Disk.disk c.args.disk.now).reach)
    (c.begin-result.ensures.cached (g.D.Disk.disk c.args.disk.now))

pub returns-in-Best-clause-outcome : goal.returns-in-Best-clause-outcome
returns-in-Best-clause-outcome g c = λ tells s in_step. rw (c.in-Command.is, c.in-Best.is) (answers_by s _ _ _ _ _ _ _ (c.best-result.ensures.by_reads tells s in_step) c.write_answer-in-Best.ensures.writes)

pub returns-in-Approx-clause-outcome : goal.returns-in-Approx-clause-outcome
returns-in-Approx-clause-outcome g c = λ tells s in_step. rw (c.in-Command.is, c.in-Approx.is) (answers_by s _ _ _ _ _ _ _ (c.approx-result.ensures.by_reads _ s in_step) c.write_approximated.ensures.writes)

pub returns-in-Rough-clause-outcome : goal.returns-in-Rough-clause-outcome
returns-in-Rough-clause-outcome g c = λ tells s in_step. rw (c.in-Command.is, c.in-Rough.is) (answers_by s _ _ _ _ _ _ _ (c.rough-result.ensures.by_reads tells s in_step) c.write_answer-in-Rough.ensures.writes)

pub returns-in-Share-clause-outcome : goal.returns-in-Share-clause-outcome
returns-in-Share-clause-outcome g c = λ tells s in_step. rw (c.in-Command.is, c.in-Share.is) (answers_by s _ _ _ _ _ _ _ (c.share-result.ensures.by_reads _ s in_step) c.write_shared.ensures.writes)

pub returns-in_default-clause-outcome : goal.returns-in_default-clause-outcome
returns-in_default-clause-outcome g c = λ tells s in_step. rw c.in_default.is (refused_by s items.Line refusals.Line _ _ _ _ (refl, refl) in_step c.refuse.ensures.goes_on c.refuse.ensures.reply)

pub returns-in-Delete-clause-outcome : goal.returns-in-Delete-clause-outcome
returns-in-Delete-clause-outcome g c = λ tells s in_step. rw (c.in-Command.is, c.in-Delete.is) (answers_by s _ _ _ _ _ _ _ (c.delete-result.ensures.by_reads tells s in_step) c.write_change.ensures.writes)

pub returns-in-Find-clause-outcome : goal.returns-in-Find-clause-outcome
returns-in-Find-clause-outcome g c = λ tells s in_step. rw (c.in-Command.is, c.in-Find.is) (answers_by s _ _ _ _ _ _ _ (c.find-result.ensures.by_reads tells s in_step) c.write_answer.ensures.writes)

pub returns-in-Top-clause-outcome : goal.returns-in-Top-clause-outcome
returns-in-Top-clause-outcome g c = λ tells s in_step. rw (c.in-Command.is, c.in-Top.is) (answers_by s _ _ _ _ _ _ _ (c.top-result.ensures.by_reads tells s in_step) c.write_answer-in-Top.ensures.writes)

pub returns-in-Between-clause-outcome : goal.returns-in-Between-clause-outcome
returns-in-Between-clause-outcome g c = λ tells s in_step. rw (c.in-Command.is, c.in-Between.is) (answers_by s _ _ _ _ _ _ _ (c.between-result.ensures.by_reads tells s in_step) c.write_answer-in-Between.ensures.writes)

pub returns-in-Show-clause-outcome : goal.returns-in-Show-clause-outcome
returns-in-Show-clause-outcome g c = λ tells s in_step. rw (c.in-Command.is, c.in-Show.is) (answers_by s _ _ _ _ _ _ _ (c.show-result.ensures.by_reads tells s in_step) c.write_version.ensures.writes)

pub returns-in-Propose-clause-outcome : goal.returns-in-Propose-clause-outcome
returns-in-Propose-clause-outcome g c = λ tells s in_step. rw (c.in-Command.is, c.in-Propose.is) (answers_by s _ _ _ _ _ _ _ (c.propose-result.ensures.by_reads _ s in_step) c.write_proposed.ensures.writes)

pub returns-in-Plan-clause-outcome : goal.returns-in-Plan-clause-outcome
returns-in-Plan-clause-outcome g c = λ tells s in_step. rw (c.in-Command.is, c.in-Plan.is) (answers_by s _ _ _ _ _ _ _ (c.plan-result.ensures.by_reads tells s in_step) c.write_planned.ensures.writes)

pub returns-in-Certificate-clause-outcome : goal.returns-in-Certificate-clause-outcome
returns-in-Certificate-clause-outcome g c = λ tells s in_step. rw (c.in-Command.is, c.in-Certificate.is) (answers_by s _ _ _ _ _ _ _ (c.certificate-result.ensures.by_reads _ s in_step) c.write_proposed-in-Certificate.ensures.writes)

pub returns-in-Verify-clause-outcome : goal.returns-in-Verify-clause-outcome
returns-in-Verify-clause-outcome g c = λ tells s in_step. rw (c.in-Command.is, c.in-Verify.is) (answers_by s _ _ _ _ _ _ _ (c.verify-result.ensures.by_reads tells s in_step) c.write_verified.ensures.writes)
