use Rattle.std.proofs.Common.{◌≡◌, List, ℕ, map, All, sym, subst}
use Rattle.std.proofs.lemmas.List.Sorted.{All-permutation}
use Rattle.lists_index.specs.Indexes.{state_of}
use Rattle.model_archive.specs.declared.stored.StoredPlan.{StoredPlan}
use Rattle.archive_check.specs.declared.ordering.Ranked.{Ranked}
use Rattle.model_archive.specs.Orders.{AreByNumber}
use Rattle.archive_check.specs.declared.digests.Digests.TheVariants.{Asked}
use Rattle.archive_check.specs.Verdicts.{LiesInside, Says}
use Rattle.archive_check.specs.Checking.{DigestsTold, TellsAll}
use Rattle.archive_check.proofs.DigestLemmas.{told_both}
use Rattle.model_archive.proofs.OrderLemmas.{are_moved}
use Rattle.archive_check.proofs.OrderLemmas.{each_ranked}
use Rattle.archive_check.proofs.verifying.check_by_number.Goals as goal

pub check_plans-requires-clause-places : goal.check_plans-requires-clause-places
check_plans-requires-clause-places g c =
    let words = (state_of c.args.index.now).words in
    let ranked = c.in_ok-ranked.ranked.items in
    let plans = c.args.plans.now in
    let P : StoredPlan → Type 0 = λ s. LiesInside (g.D.Disk.disk c.args.disk.now).reach.pages s.plan in
    let T : List Ranked → Type 0 = λ l. All (λ t. P t.stored.now) l in
    subst T (sym c.deref.ensures.value) (each_ranked P ranked (All-permutation P plans (map (λ t. t.stored.now) ranked) (are_moved words plans (map (λ t. t.stored.now) ranked) c.in_ok-ranked.ensures.ordered) c.requires.places))

pub returns-clause-told : goal.returns-clause-told
returns-clause-told g c = λ told texts indexes utf8.
    let pages = (g.D.Disk.disk c.args.disk.now).holds.pages in
    let plans = c.args.plans.now in
    let ranked = c.deref.result.now in
    let ordered = map (λ t. t.stored.now) ranked in
    let W : List (List ℕ) → Type 0 = λ words. AreByNumber words plans ordered in
    let T : List Ranked → Type 0 = λ l. AreByNumber (state_of c.args.index.now).words plans (map (λ t. t.stored.now) l) in
    let by_number = subst W indexes.words_are (subst T (sym c.deref.ensures.value) c.in_ok-ranked.ensures.ordered) in
    told_both (λ v. Says v.verdict texts pages ordered) (λ v. DigestsTold v pages ordered) (λ v. TellsAll c.args.digests v texts pages plans) (c.args.digests ≡ Asked) c.check_plans.result
    (λ v says digests. record { ordered = ordered; by_number = by_number; says = says; digests_told = digests }) (c.check_plans.ensures.verdict told texts indexes utf8) (c.check_plans.ensures.altered told)
