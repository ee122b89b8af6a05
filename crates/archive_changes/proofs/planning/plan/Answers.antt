use Rattle.std.proofs.Common.{◌∷◌, [], ◌++◌, Option, Err, refl, ap, inr, sym, subst}
use Rattle.std.proofs.lemmas.Result.{IfOk-weaker}
use Rattle.journal_entries.specs.declared.entry.Entry.TheVariants as entries
use Rattle.base_commands.specs.declared.command.Command.TheVariants as commands
use Rattle.base_commands.specs.declared.command.Item.TheVariants as items
use Rattle.model_archive.specs.declared.summary.Summary.{Summary}
use Rattle.model_archive.specs.Steps.{OfStill, Planned, Plans, Refused}
use Rattle.model_archive.specs.Worlds.{Job}
use Rattle.archive_hand.specs.Jobs.{plain_job}
use Rattle.archive_hand.specs.States.{CacheStands, StandsFor}
use Rattle.archive_hand.proofs.GiveUpLemmas.{given_up_asked, given_up_cached, given_up_job, given_up_never, given_up_refused}
use Rattle.archive_hand.proofs.ByReadsLemmas.{still_by, stocks_same}
use Rattle.archive_changes.proofs.PlanLemmas.{plan_by, plans_full, plans_stored, plans_refused}
use Rattle.archive_changes.proofs.TakeLemmas.{unmade_by}
use Rattle.archive_changes.proofs.planning.plan.Goals as goal

pub returns-in-Ok-clause-refused : goal.returns-in-Ok-clause-refused
returns-in-Ok-clause-refused g c = λ h stands why is.
    let ens = c.in-Ok.ensures in
    let full = c.store.ensures.refused h stands why is in
    (plans_full (plain_job c.args.archive.now.job) h c.args.word.now c.args.kind c.args.factor c.in-Ok.draft c.args.archive.now.end why ens.term (ens.known h stands) ens.kind ens.factor (ens.drafted h stands) ens.still stands.end_is full.0, full.1)

pub returns-in-Ok-clause-stores : goal.returns-in-Ok-clause-stores
returns-in-Ok-clause-stores g c = λ h stands.
    let ens = c.in-Ok.ensures in
    let job = plain_job c.args.archive.now.job in
    IfOk-weaker c.store.result _ _ (λ summary (plan, (stored, told, then)).
    let P : Summary → Type 0 = λ s. Plans job h c.args.word.now c.args.kind c.args.factor (Planned s) (h ++ entries.Planned plan ∷ []) in
    (h ++ entries.Planned plan ∷ [], (subst P (sym told) (plans_stored job h c.args.word.now c.args.kind c.args.factor c.in-Ok.draft plan ens.term (ens.known h stands) ens.kind ens.factor (ens.drafted h stands) ens.still stored), then)))
    (c.store.ensures.stores h stands)

pub returns-in-Ok-clause-by_reads : goal.returns-in-Ok-clause-by_reads
returns-in-Ok-clause-by_reads g c = λ tells s in_step.
    let h = s.history in
    let ens = c.in-Ok.ensures in
    let stands = in_step.stands in
    let still = subst (λ (o : Option Job). OfStill o c.in-Ok.draft.word (λ why. ⊥) (Unit {0})) in_step.job_is ens.still in
    plan_by s c.args.word.now c.args.kind c.args.factor c.in-Ok.draft c.store.result _ _ c.args.archive.now c.store.new.self in_step ens.term (ens.known h stands) ens.kind ens.factor (ens.drafted h stands) still
    (λ why is.
    let full = returns-in-Ok-clause-refused g c h stands why is in
    let same = ap g.D.Disk.disk (c.store.ensures.same why is) in (
      same,
      subst (λ (o : Option Job). Plans o h c.args.word.now c.args.kind c.args.factor (Refused why) h) in_step.job_is full.0,
      still_by _ c.args.archive.now c.store.new.self s in_step full.1 c.store.ensures.unasked
          (let kept : CacheStands (g.D.Disk.disk c.store.new.disk) c.store.new.self = c.store.ensures.cached tells in_step.cached (inr (why, is)) in rw same at kept) c.store.ensures.idle,
    ))
    (λ is. ap g.D.Disk.disk (c.store.ensures.memory is)) (c.store.ensures.puts tells s in_step) (c.store.ensures.stops tells s in_step)

pub returns-in-Err-clause-refused : goal.returns-in-Err-clause-refused
returns-in-Err-clause-refused g c = λ h stands why is.
    let job = c.args.archive.now.job in
    given_up_refused (λ w s. Plans (plain_job job) h c.args.word.now c.args.kind c.args.factor (Refused w) h × StandsFor s h) c.in-Err.declined c.give_up.result c.args.archive.now c.give_up.new.self why c.give_up.ensures
    (λ other one. (plans_refused (plain_job job) h c.args.word.now c.args.kind c.args.factor other (c.in-Err.ensures.refused h stands other one), stands)) is

pub returns-in-Err-clause-by_reads : goal.returns-in-Err-clause-by_reads
returns-in-Err-clause-by_reads g c = λ tells s in_step.
    let disk = g.D.Disk.disk c.args.disk.now in
    let b = c.give_up.new.self in
    unmade_by s (items.Command (commands.Plan c.args.word.now c.args.kind c.args.factor)) c.give_up.result _ _ c.args.archive.now b in_step
    (λ why is.
    let full = returns-in-Err-clause-refused g c s.history in_step.stands why (ap Err is) in (
      refl,
      (subst (λ (o : Option Job). Plans o s.history c.args.word.now c.args.kind c.args.factor (Refused why) s.history) in_step.job_is full.0, refl, stocks_same s b disk in_step.live),
      still_by _ c.args.archive.now b s in_step full.1 (given_up_asked c.in-Err.declined c.give_up.result c.args.archive.now b c.give_up.ensures) (given_up_cached c.in-Err.declined c.give_up.result c.args.archive.now b disk c.give_up.ensures in_step.cached)
          (given_up_job c.in-Err.declined c.give_up.result c.args.archive.now b c.give_up.ensures),
    ))
    (λ is. given_up_never {T = Summary} _ c.in-Err.declined c.give_up.result c.args.archive.now b c.give_up.ensures (inr (ap Err is))) (λ is. refl)
