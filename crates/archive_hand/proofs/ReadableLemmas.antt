-- The live plans of an open archive can be read.
use Rattle.std.proofs.Common.{◌≡◌, ℕ, zero, suc, ◌*◌, ◌<◌, ◌≤◌, ◌^◌, List, [], ◌∷◌, length, get_or, sum_by, All, sym, subst, arith}
use Rattle.std.proofs.lemmas.List.Sums.{sum_by-cons}
use Rattle.machine_model.specs.Areas.{Both}
use Rattle.base_types.specs.declared.extent.Extent.{Extent}
use Rattle.pages_area.specs.Live.{IsInside}
use Rattle.journal_entries.specs.PlanSpelling.{IsPlanEntry}
use Rattle.journal_entries.specs.declared.place.Place.{Place}
use Rattle.model_archive.specs.declared.stored.StoredPlan.{StoredPlan}
use Rattle.model_archive.specs.Histories.{History}
use Rattle.archive_check.proofs.HeldLemmas.{extents_split}
use Rattle.archive_check.proofs.OpenLemmas.{is_entry, live_entries}
use Rattle.archive_hand.specs.States.{ArchiveState, StandsBut, Reaches}
use Rattle.archive_plans.specs.Shelves.{extents_all, IsReadable}

inside_at : (P : Extent → Type 0) (live : List StoredPlan) (at : ℕ) (s : StoredPlan) → All P (extents_all live) → at < length live → s ≡ get_or live at s → All (λ (p : Place). P p.extent) s.plan.places
inside_at P [] at s all within same = absurd (omega (arith, within))
inside_at P (x ∷ live) zero s all within same =
    let L : StoredPlan → Type 0 = λ y. All (λ (p : Place). P p.extent) y.plan.places in
    subst L (sym same) (extents_split P x.plan.places (extents_all live) all).0
inside_at P (x ∷ live) (suc at) s all within same = inside_at P live at s (extents_split P x.plan.places (extents_all live) all).1 (omega (arith, within)) same

-- no extent has more bytes than Pages may have
few_bytes : (places : List Place) → sum_by (λ (p : Place). p.extent.bytes) places ≤ length places * 2 ^ 40
few_bytes [] = omega arith
few_bytes (p ∷ places) =
    let in_pages = p.extent.in_pages in
    omega (arith, few_bytes places, sum_by-cons (λ (q : Place). q.extent.bytes) p places, in_pages)

pub readable : (a : ArchiveState) (h : History) (reach : Both ℕ) (at : ℕ) (s : StoredPlan) → StandsBut a h → Reaches reach a → at < length a.shelf.plans → s ≡ get_or a.shelf.plans at s → IsReadable reach.pages s.plan
readable a h reach at s stands within there same =
    let all : All is_entry a.shelf.plans = subst (All is_entry) (sym stands.plans_are) (live_entries h stands.loadable) in
    let is : IsPlanEntry s.plan = subst is_entry (sym same) (all at s there) in
    record {
      as_many = is.well_cut.places;
      inside = inside_at (IsInside reach.pages) a.shelf.plans at s within.1 there same;
      few = omega (arith, few_bytes s.plan.places, is.well_cut.places, is.well_cut.most);
    }
