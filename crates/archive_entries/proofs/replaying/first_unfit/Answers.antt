use Rattle.std.proofs.Common.{◌≡◌, ℕ, List, All, subst, rules}
use Rattle.std.proofs.lemmas.List.{take_all}
use Rattle.model_archive.specs.declared.stored.StoredPlan.{StoredPlan}
use Rattle.archive_entries.specs.Replaying.{IsFitIn, IsFirstUnfit}
use Rattle.archive_entries.proofs.SettleLemmas.{first_at, fit_more}
use Rattle.archive_entries.proofs.replaying.first_unfit.Goals as goal

pub returns-then-not-branch-clause-first : goal.returns-then-not-branch-clause-first
returns-then-not-branch-clause-first c = λ at is h indexes.
    let same : c.stored-item.result.gate ≡ at = cc in
    subst (λ (n : ℕ). IsFirstUnfit h c.args.plans.now n) same
    (first_at h c.args.plans.now c.loop-stored.stored-index c.stored-item.result c.in_ok-fits.field-0 (search rules) (search rules) (c.loop-stored.invariant h indexes) (c.in_ok-fits.ensures.fits h indexes) c.if-not-branch.true)

pub loop-stored-preserved : goal.loop-stored-preserved
loop-stored-preserved c = λ h indexes.
    fit_more h c.args.plans.now c.loop-stored.stored-index c.stored-item.result c.in_ok-fits.field-0 (search rules) (search rules) (c.loop-stored.invariant h indexes) (c.in_ok-fits.ensures.fits h indexes) c.if-not-branch.false

pub returns-clause-none : goal.returns-clause-none
returns-clause-none c = λ none h indexes.
    let A : List StoredPlan → Type 0 = λ l. All (IsFitIn h) l in
    subst A (take_all c.loop-stored.stored-index c.args.plans.now c.loop-stored-test.false) (c.loop-stored.invariant h indexes)
