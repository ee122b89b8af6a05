use Rattle.std.proofs.Common.{◌≡◌, Option, Err, ap, sym, subst, ◌∙◌}
use Rattle.std.proofs.lemmas.Result.{IfOk-weaker, err_from_is_err_and}
use Rattle.journal_gates.proofs.LoadLemmas.{exit_is}
use Rattle.base_commands.specs.declared.command.Kind.TheVariants.{Guarantee}
use Rattle.text_words.specs.Terms.{one_term}
use Rattle.model_archive.specs.Planning.{OfPhrase}
use Rattle.model_archive.specs.Steps.{OfIdle, spelled_key}
use Rattle.model_archive.specs.Worlds.{Job}
use Rattle.archive_hand.specs.Jobs.{plain_job}
use Rattle.archive_hand.specs.Stored.{world_by}
use Rattle.archive_changes.proofs.PlanLemmas.{begins_full, begins_refused, begins_taken}
use Rattle.archive_changes.proofs.BeginLemmas.{begin_by, cached_begun, declined_by, reach_begun}
use Rattle.archive_changes.proofs.planning.begin.Goals as goal

-- ---- there was no draft

pub returns-in_err-draft-clause-refused : goal.returns-in_err-draft-clause-refused
returns-in_err-draft-clause-refused c = λ w stands is why e.
    let p = err_from_is_err_and c.from_residual.result c.from_residual.ensures.1 in
    let O : Option Job → Type 0 = λ o. OfPhrase Guarantee w.history (spelled_key (one_term c.args.word.now)) (λ because. why ≡ because) (λ word list. OfIdle o word (λ because. why ≡ because) ⊥) in
    begins_refused w c.args.word.now c.args.factor why
    (subst O (sym is) (c.idle_draft.ensures.refused w.history stands why (exit_is c.idle_draft.result c.from_residual.result c.in_err-draft.field-0.0 p.0 _ c.in_err-draft.was p.1 p.2 e)))

pub returns-in_err-draft-clause-by_reads : goal.returns-in_err-draft-clause-by_reads
returns-in_err-draft-clause-by_reads c = λ d s in_step.
    let p = err_from_is_err_and c.from_residual.result c.from_residual.ensures.1 in
    rw p.1 (declined_by s c.args.word.now c.args.factor p.0 d c.args.archive.now in_step
    (λ because is. returns-in_err-draft-clause-refused c (world_by s) in_step.stands (sym in_step.job_is) because (p.1 ∙ ap Err is)))

-- ---- there was one

pub returns-clause-within : goal.returns-clause-within
returns-clause-within c = λ reach within. reach_begun reach c.args.archive.now c.begin.new.self c.begin.ensures.same c.begin.ensures.unwritten within

pub returns-clause-cached : goal.returns-clause-cached
returns-clause-cached c = λ d cached. cached_begun d c.args.archive.now c.begin.new.self c.begin.ensures.same c.in_ok-draft.ensures.idle c.begin.ensures.unwritten cached

pub returns-clause-begun : goal.returns-clause-begun
returns-clause-begun c = λ w stands is.
    let ens = c.in_ok-draft.ensures in
    IfOk-weaker c.begin.result _ _ (λ told (taken, then).
    begins_taken w c.args.word.now c.args.factor c.in_ok-draft.draft (plain_job c.begin.new.self.job) told ens.term (ens.known w.history stands) ens.kind ens.factor (ens.drafted w.history stands) (is ∙ ap plain_job ens.idle) taken)
    (c.begin.ensures.begun w.history stands)

pub returns-clause-refused : goal.returns-clause-refused
returns-clause-refused c = λ w stands is why e.
    let ens = c.in_ok-draft.ensures in
    begins_full w c.args.word.now c.args.factor c.in_ok-draft.draft c.args.archive.now.end why ens.term (ens.known w.history stands) ens.kind ens.factor (ens.drafted w.history stands) (is ∙ ap plain_job ens.idle) stands.end_is
    (c.begin.ensures.refused w.history stands why e)

pub returns-clause-by_reads : goal.returns-clause-by_reads
returns-clause-by_reads c = λ d s in_step.
    let ens = c.in_ok-draft.ensures in
    let h = s.history in
    begin_by s c.args.word.now c.args.factor c.in_ok-draft.draft c.begin.result d c.args.archive.now c.begin.new.self in_step c.begin.ensures.same ens.term (ens.known h in_step.stands) ens.kind ens.factor (ens.drafted h in_step.stands) ens.idle
    (returns-clause-cached c d in_step.cached) c.begin.ensures.none (c.begin.ensures.begun h in_step.stands) (c.begin.ensures.refused h in_step.stands) (c.begin.ensures.stays h in_step.stands)
