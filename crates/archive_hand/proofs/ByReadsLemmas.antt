-- What an archive stands for by what reads give, whatever lies in Pages: over reads and over a change.
use Rattle.std.proofs.Common.{◌≡◌, ℕ, List, [], ◌∷◌, ◌++◌, length, map, All, inl, inr, refl, ap, sym, subst, ◌∙◌, arith}
use Rattle.std.proofs.lemmas.List.{length_push}
use Rattle.std.proofs.lemmas.List.Elements.{All-nil, All-cons, All-head, All-tail, All-weaker}
use Rattle.machine_model.specs.Areas.{Bytes}
use Rattle.machine_model.specs.Calls.{OnlyReads}
use Rattle.machine_model.specs.Images.{MayLeave}
use Rattle.machine_model.specs.States.{DiskState}
use Rattle.machine_model.proofs.MomentLemmas.{goes_on_same, left_now}
use Rattle.base_types.specs.declared.extent.Extent.{Extent}
use Rattle.journal_gates.specs.InStep.{IsInStep}
use Rattle.journal_gates.proofs.InStepLemmas.{step_at, step_spells}
use Rattle.pages_area.specs.Live.{AreLive, IsInside}
use Rattle.pages_area.specs.Ranges.{SameOutside, range_of}
use Rattle.pages_area.specs.Taken.{AreApart, IsApartFrom}
use Rattle.pages_area.proofs.StayLemmas.{AreApartFrom, bytes_stay}
use Rattle.journal_entries.specs.declared.entry.Entry.{Entry}
use Rattle.journal_entries.specs.declared.entry.Entry.TheVariants.{Planned}
use Rattle.journal_entries.specs.declared.plan.PlanEntry.{PlanEntry}
use Rattle.model_archive.specs.Histories.{History}
use Rattle.model_archive.specs.Plans.{IsNoPlan, live_extents}
use Rattle.model_archive.specs.Stands.{bodies_of}
use Rattle.model_archive.specs.declared.stored.StoredPlan.{StoredPlan}
use Rattle.model_archive.proofs.HoldLemmas.{same_live}
use Rattle.archive_plans.specs.Shelves.{extents_all}
use Rattle.archive_hand.specs.Changing.{KeepsBy, LeadsBy}
use Rattle.archive_hand.specs.Jobs.{plain_job}
use Rattle.archive_hand.specs.States.{ArchiveState, AreInStepBy, CacheStands, IsSameButCache, StandsFor, with_entry, with_reads}
use Rattle.archive_hand.specs.Stored.{Store, EachStandsBy, HasSame, StandsBy, Stocks}
use Rattle.archive_hand.proofs.AddLemmas.{step_reads}
use Rattle.archive_hand.proofs.CacheLemmas.{stands_but_cache}

-- ---- in step

-- each image stands for what is stored
pub stands_by : (d : DiskState) (a : ArchiveState) (s : Store) → AreInStepBy d a s → EachStandsBy d s
stands_by d a s in_step = λ image allowed. record { spelled = step_spells d a.end (bodies_of s.history) in_step.journal image allowed; same = in_step.same image allowed }

-- where no call is made
pub keeps_nowhere : (d : DiskState) (a : ArchiveState) (s : Store) → AreInStepBy d a s → KeepsBy s d d
keeps_nowhere d a s in_step = record {
  goes_on = goes_on_same d;
  images = left_now d (λ image beside. StandsBy s image × (beside ≡ d.now.beside)) (λ image allowed. (stands_by d a s in_step image allowed, refl));
}

-- where all is kept it leads to anything
pub keeps_leads : (s next : Store) (old new : DiskState) → KeepsBy s old new → LeadsBy s next old new
keeps_leads s next old new keeps = record { goes_on = keeps.goes_on; images = λ image beside left. let was = keeps.images image beside left in (inl was.0, was.1) }

-- reads leave what they find
pub keeps_reads : (old new : DiskState) (a : ArchiveState) (s : Store) → AreInStepBy old a s → OnlyReads old new → KeepsBy s old new
keeps_reads old new a s in_step same =
    let still = keeps_nowhere old a s in_step in
    subst (λ (d : DiskState). KeepsBy s old d) (sym same) (record {
      goes_on = let g = still.goes_on in record { later = g.later; nothing_else = g.nothing_else; keeps = g.keeps };
      images = still.images;
    })

-- and an archive that keeps other pages stands for the same history in the same pages
pub reads_by : (s : Store) (old new : DiskState) (a b : ArchiveState) → AreInStepBy old a s → OnlyReads old new → IsSameButCache a b → CacheStands new b → AreInStepBy new b (with_reads s b new)
reads_by s old new a b in_step same but cached = record {
  stands = stands_but_cache a b s.history but in_step.stands;
  asked_are = ap (λ (x : ArchiveState). x.asked) but ∙ in_step.asked_are;
  journal = subst (λ (x : ArchiveState). IsInStep new x.end (bodies_of s.history)) (sym but) (step_reads old new a.end (bodies_of s.history) in_step.journal same);
  pages_are = ap (λ (d : DiskState). d.holds.pages) same ∙ in_step.pages_are;
  kept_are = refl;
  read_is = refl;
  job_is = subst (λ (x : ArchiveState). plain_job x.job ≡ s.job) (sym but) in_step.job_is;
  live = in_step.live;
  same = (let P : DiskState → Type 0 = λ d. (image : Bytes) → MayLeave d.now image → All (HasSame s.pages image.pages) (live_extents s.history) in subst P (sym same) in_step.same);
  cached = cached;
}

-- an archive that goes on standing for a history on the same disk
pub still_by : (d : DiskState) (a b : ArchiveState) (s : Store) → AreInStepBy d a s → StandsFor b s.history → b.asked ≡ a.asked → CacheStands d b → b.job ≡ a.job → AreInStepBy d b (with_reads s b d)
still_by d a b s was stands unasked cached job = record {
  stands = stands;
  asked_are = unasked ∙ was.asked_are;
  journal = step_at (stands.end_is ∙ sym was.stands.end_is) was.journal;
  pages_are = was.pages_are;
  kept_are = refl;
  read_is = refl;
  job_is = ap plain_job job ∙ was.job_is;
  live = was.live;
  same = was.same;
  cached = cached;
}

-- ---- places that have the bytes that they had

-- of pages themselves
pub all_same : (pages : List ℕ) (es : List Extent) → All (IsInside (length pages)) es → All (HasSame pages pages) es
all_same pages es inside = All-weaker (IsInside (length pages)) (HasSame pages pages) (λ e is. (is, refl)) es inside

-- of pages that are the same
pub same_as : (was pages now : List ℕ) (es : List Extent) → now ≡ pages → All (HasSame was pages) es → All (HasSame was now) es
same_as was pages now es is all = subst (λ (ps : List ℕ). All (HasSame was ps) es) (sym is) all

-- and where pages were changed only in extents apart from them
pub same_outside : (others live : List Extent) (base was pages : List ℕ) → AreApartFrom others live → SameOutside (map range_of others) was pages → All (HasSame base was) live → All (HasSame base pages) live
same_outside others [] base was pages apart same all = All-nil (HasSame base pages)
same_outside others (e ∷ live) base was pages apart same all =
    let one = All-head (HasSame base was) e live all in
    let own : IsApartFrom e others = λ p mine other. apart p other (inl mine) in
    All-cons (HasSame base pages) e live
    (omega (arith, one.0, same.no_shorter), bytes_stay e others was pages own (λ some. one.0) same ∙ one.1)
    (same_outside others live base was pages (λ p other mine. apart p other (inr mine)) same (All-tail (HasSame base was) e live all))

-- pages that have what those had have it of each other
pub both_same : (was pages image : List ℕ) (es : List Extent) → All (HasSame was pages) es → All (HasSame was image) es → All (HasSame pages image) es
both_same was pages image [] one two = All-nil (HasSame pages image)
both_same was pages image (e ∷ es) one two =
    let mine = All-head (HasSame was pages) e es one in
    let its = All-head (HasSame was image) e es two in
    All-cons (HasSame pages image) e es (its.0, its.1 ∙ sym mine.1) (both_same was pages image es (All-tail (HasSame was pages) e es one) (All-tail (HasSame was image) e es two))

-- ---- what a change leaves in Pages

pub no_longer : (h : History) (plan : PlanEntry) → h ≡ h ++ Planned plan ∷ [] → ⊥
no_longer h plan same = omega (arith, ap length same, length_push h (Planned plan))

pub stocks_none : (s : Store) → AreLive (live_extents s.history) (length s.pages) → Stocks s s
stocks_none s live = record { same = all_same s.pages (live_extents s.history) live.0; apart = live.1; held = λ plan same. absurd (no_longer s.history plan same); asked = refl }

pub stocks_same : (s : Store) (a : ArchiveState) (d : DiskState) → AreLive (live_extents s.history) (length s.pages) → Stocks s (with_reads s a d)
stocks_same s a d live = record { same = all_same s.pages (live_extents s.history) live.0; apart = live.1; held = λ plan same. absurd (no_longer s.history plan same); asked = refl }

pub one_entry : (h : History) (e f : Entry) → h ++ e ∷ [] ≡ h ++ f ∷ [] → e ≡ f
one_entry [] e f same = cc
one_entry (x ∷ h) e f same = one_entry h e f cc

pub stocks_change : (s : Store) (e : Entry) (a : ArchiveState) (d : DiskState) → IsNoPlan e → AreLive (live_extents s.history) (length s.pages) → Stocks s (with_entry s e s.pages a d)
stocks_change s e a d change live = record {
  same = all_same s.pages (live_extents s.history) live.0;
  apart = subst (λ (l : List StoredPlan). AreApart (extents_all l)) (sym (same_live s.history e change)) live.1;
  held = λ plan same. absurd (subst IsNoPlan (one_entry s.history e (Planned plan) same) change);
  asked = refl;
}
