-- A plan that is made ready to be stored.
use Rattle.std.proofs.Common.{◌≡◌, List, length, ap, sym, subst, ◌∙◌}
use Rattle.base_types.specs.declared.posting.Posting.{Posting}
use Rattle.base_types.specs.declared.time.Time.{Time}
use Rattle.journal_entries.specs.declared.plan.PlanEntry.{PlanEntry}
use Rattle.journal_entries.specs.PlanSpelling.{IsWellCut}
use Rattle.plans_kinds.specs.Plans.{IsGoodPlan}
use Rattle.plans_kinds.proofs.GoodLemmas.{good_is_fit, good_are_short, fit_well_cut}

-- the cuts of a plan that is what its kind promises are well cut
pub is_well_cut : (list : List Posting) (entry : PlanEntry) (cuts : List Time) → entry.cuts ≡ cuts → length entry.places ≡ length cuts
    → IsGoodPlan entry.kind list entry.fraction cuts entry.horizon.seconds → IsWellCut entry
is_well_cut list entry cuts same many good =
    let here : IsGoodPlan entry.kind list entry.fraction entry.cuts entry.horizon.seconds = subst (λ (c : List Time). IsGoodPlan entry.kind list entry.fraction c entry.horizon.seconds) (sym same) good in
    let cut = fit_well_cut entry.kind list entry.fraction entry.cuts entry.horizon (good_is_fit entry.kind list entry.fraction entry.cuts entry.horizon here) in
    record { some = cut.0; most = good_are_short entry.kind list entry.fraction entry.cuts entry.horizon here; places = many ∙ ap length (sym same); ascend = cut.2 }
