use Rattle.std.proofs.Common.{◌≡◌, ℕ, ◌+◌, ◌++◌, ◌∷◌, [], length, Result, Ok, Err, IfOk, inl, refl, ap}
use Rattle.base_commands.specs.declared.command.Command.TheVariants as commands
use Rattle.base_commands.specs.declared.command.Item.TheVariants as items
use Rattle.journal_entries.specs.declared.entry.Entry.TheVariants as entries
use Rattle.model_archive.specs.Histories.{History}
use Rattle.model_archive.specs.Steps.{mark_refusal}
use Rattle.archive_hand.specs.States.{ArchiveState, StandsFor}
use Rattle.archive_hand.specs.declared.error.ChangeError.{ChangeError}
use Rattle.archive_changes.proofs.AddLemmas.{entry_led}
use Rattle.archive_changes.proofs.TakeLemmas.{entry_by}
use Rattle.archive_changes.proofs.changing.mark_format.Goals as goal

pub returns-clause-adds : goal.returns-clause-adds
returns-clause-adds g c = λ h stands. record {
  refused = c.mark.ensures.refused h stands;
  allowed = c.mark.ensures.allowed h stands;
  stands = c.mark.ensures.stands h stands;
}

pub returns-clause-by_reads : goal.returns-clause-by_reads
returns-clause-by_reads g c = λ tells s in_step.
    entry_by s (items.Command commands.Format) entries.Format (mark_refusal s.history) c.mark.result _ _ c.args.archive.now c.mark.new.self tt
    (λ reply next adds job stocks. (adds, job, stocks)) in_step (returns-clause-adds g c s.history in_step.stands) (λ why is. let same = c.mark.ensures.same why is in (same.0, ap g.D.Disk.disk same.1)) (λ is. ap g.D.Disk.disk (c.mark.ensures.memory is))
    (entry_led c.mark.result c.mark.new.self _ _ s entries.Format _ c.args.archive.now in_step tt refl (only c.mark.new.self s.history c.mark.result (c.mark.ensures.stands s.history in_step.stands)) (c.mark.ensures.crash tells _ in_step.journal) (c.mark.ensures.pages tells)
    (c.mark.ensures.pages_hold tells) (c.mark.ensures.in_step tells _ in_step.journal) (λ ok. c.mark.ensures.cached tells in_step.cached (inl ok)) (λ ok. c.mark.ensures.unasked) (λ ok. c.mark.ensures.idle))
  where
    only : (a : ArchiveState) (h : History) (r : Result ℕ ChangeError) → IfOk r (λ n. StandsFor a (h ++ entries.Format ∷ []) × (n ≡ length h + 1)) → IfOk r (λ _. StandsFor a (h ++ entries.Format ∷ []))
    only a h (Ok n) stands = stands.0
    only a h (Err error) stands = tt
