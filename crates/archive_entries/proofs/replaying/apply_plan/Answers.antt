use Rattle.std.proofs.Common.{◌∙◌, ◌∷◌, ◌++◌, [], List, ap, subst, sym, rules}
use Rattle.model_archive.specs.declared.stored.StoredPlan.{StoredPlan}
use Rattle.journal_entries.specs.Spelling.{spelling}
use Rattle.journal_entries.specs.declared.entry.Entry.TheVariants.{Planned}
use Rattle.lists_index.specs.Loads.{loaded}
use Rattle.archive_entries.specs.Replaying.{IsGoneOver}
use Rattle.archive_entries.proofs.ReplayLemmas.{plan_over, plan_there}
use Rattle.archive_entries.proofs.replaying.apply_plan.Goals as goal

pub returns-then-not-is_timely-clause-bad : goal.returns-then-not-is_timely-clause-bad
returns-then-not-is_timely-clause-bad c = λ h reached at is.
    plan_there c.args.head.now.gate h c.args.plan c.args.met.now.directory.changes c.args.met.now.plans.items at reached c.requires.ranges (λ timely. let t = c.is_timely.ensures.1 timely in let f = c.if-not-is_timely.true in cc) (search rules)

pub returns-clause-more : goal.returns-clause-more
returns-clause-more c = λ h reached loads.
    let P : List StoredPlan → Type 0 = λ l. IsGoneOver c.args.head.now.gate h (spelling (Planned c.args.plan)) c.args.met.now.directory.changes l c.args.met.now.marked (loaded c.args.met.now.loader) in
    subst P (sym (c.push_reserved.ensures.items ∙ ap (λ (l : List StoredPlan). l ++ record { gate = c.args.head.now.gate; plan = c.args.plan } ∷ []) c.in_ok-reserve.ensures.items))
    (plan_over c.args.head.now.gate h c.args.plan c.args.met.now.directory.changes c.args.met.now.plans.items (loaded c.args.met.now.loader) reached c.requires.ranges (c.is_timely.ensures.0 (let f = c.if-not-is_timely.false in search rules)) loads)
