-- A plan that is begun: what the archive reaches and keeps then, and that it is a step by what reads give.
use Rattle.std.proofs.Common.{◌≡◌, ℕ, ◌+◌, ◌*◌, ◌≤◌, All, List, [], ◌++◌, length, Option, Some, None, Result, Ok, Err, IfOk, OnErr, refl, ap, sym, subst, ◌∙◌}
use Rattle.std.proofs.lemmas.List.Elements.{All-nil}
use Rattle.machine_model.specs.Areas.{Both}
use Rattle.machine_model.specs.States.{DiskState}
use Rattle.base_types.specs.declared.fraction.Fraction.{Fraction}
use Rattle.base_commands.specs.declared.command.Command.TheVariants as commands
use Rattle.base_commands.specs.declared.command.Item.TheVariants as items
use Rattle.base_commands.specs.declared.command.Kind.TheVariants.{Guarantee}
use Rattle.pages_area.specs.Caches.{Kept, StandsFor as IsCacheOf}
use Rattle.pages_area.specs.Live.{IsInside}
use Rattle.pages_sublists.specs.Paged.{ReachPages}
use Rattle.text_words.specs.Terms.{one_term}
use Rattle.model_archive.specs.declared.refusal.Refusal.{Refusal}
use Rattle.model_archive.specs.Planning.{IsKnown}
use Rattle.model_archive.specs.Plans.{live_extents}
use Rattle.model_archive.specs.Steps as steps
use Rattle.model_archive.specs.Steps.{Begins, Refused, spelled_key}
use Rattle.model_archive.specs.Worlds.{Job}
use Rattle.archive_entries.specs.declared.error.Declined.{Declined}
use Rattle.archive_entries.specs.declared.error.Declined.TheVariants as declines
use Rattle.archive_plans.specs.declared.readying.Draft.{Draft}
use Rattle.archive_plans.specs.Readying.{IsFull}
use Rattle.archive_plans.specs.Shelves.{extents_all}
use Rattle.archive_hand.specs.Jobs.{plain_job, written_of}
use Rattle.archive_hand.specs.States.{ArchiveState, AreInStepBy, CacheStands, Reaches, StandsFor}
use Rattle.archive_hand.specs.Stored.{Store, world_by}
use Rattle.archive_hand.specs.Storing.{IsDraft, IsTakenOn}
use Rattle.archive_hand.specs.Takes.{TakesBy}
use Rattle.archive_hand.specs.declared.job.Begun.{Begun}
use Rattle.archive_hand.proofs.ByReadsLemmas.{keeps_nowhere}
use Rattle.archive_changes.specs.Endings.{begun}
use Rattle.archive_changes.proofs.PlanLemmas.{IsSameBut, begins_full, begins_taken, begun_by}

-- ---- what it reaches and keeps

pub reach_begun : (reach : Both ℕ) (a b : ArchiveState) → IsSameBut a b → written_of b.job ≡ [] → Reaches reach a → Reaches reach b
reach_begun reach a b same unwritten within = (
  subst (λ (x : ArchiveState). x.end ≤ reach.journal) (sym same) within.0,
  subst (λ (x : ArchiveState). All (IsInside reach.pages) (extents_all x.shelf.plans)) (sym same) within.1,
  subst (λ (ks : List Kept). ReachPages reach.pages ks) (sym unwritten) (All-nil (λ (k : Kept). k.page * 4096 + length k.bytes ≤ reach.pages)),
)

pub cached_begun : (d : DiskState) (a b : ArchiveState) → IsSameBut a b → a.job ≡ None → written_of b.job ≡ [] → CacheStands d a → CacheStands d b
cached_begun d a b same idle unwritten cached =
    let cache : b.shelf.cache ≡ a.shelf.cache = ap (λ (x : ArchiveState). x.shelf.cache) same in
    let nothing : written_of b.job ≡ written_of a.job = unwritten ∙ sym (ap written_of idle) in
    let kept : b.shelf.cache ++ written_of b.job ≡ a.shelf.cache ++ written_of a.job = cc in
    subst (λ (ks : List Kept). IsCacheOf ks d.holds.pages) (sym kept) cached

-- ---- a step

-- it was refused before any page was taken, or there was no memory
pub declined_by : (s : Store) (phrase : List ℕ) (factor : Fraction) (why : Declined) (d : DiskState) (a : ArchiveState) → AreInStepBy d a s
    → ((because : Refusal) → why ≡ declines.Refused because → Begins (world_by s) phrase factor (Refused because) (world_by s)) → TakesBy s (items.Command (commands.Begin phrase factor)) (begun (Err why)) d d a
declined_by s phrase factor (declines.Refused because) d a in_step refused =
    let R : Option Job → Type 0 = λ o. Begins (world_by s) phrase factor (Refused because) (record (world_by s) { job = o }) in
    begun_by s phrase factor (Refused because) d a a in_step refl in_step.stands in_step.cached (subst R (sym in_step.job_is) (refused because refl))
declined_by s phrase factor declines.Memory d a in_step refused = keeps_nowhere d a s in_step

-- a draft was to be begun
pub begin_by : (s : Store) (phrase : List ℕ) (factor : Fraction) (draft : Draft) (r : Result Begun Declined) (d : DiskState) (a b : ArchiveState) → AreInStepBy d a s → IsSameBut a b
    → spelled_key (one_term phrase) ≡ Some draft.word → IsKnown s.history draft.word → draft.kind ≡ Guarantee → draft.factor ≡ factor → IsDraft s.history draft → a.job ≡ None
    → CacheStands d b → OnErr r (b.job ≡ None) → IfOk r (λ told. IsTakenOn s.history draft (plain_job b.job) told × StandsFor b s.history)
    → ((why : Refusal) → r ≡ Err (declines.Refused why) → IsFull draft (live_extents s.history) a.end why) → OnErr r (StandsFor b s.history) → TakesBy s (items.Command (commands.Begin phrase factor)) (begun r) d d b
begin_by s phrase factor draft r d a b in_step same term known kind_is factor_is is idle cached none taken full stays = go r none taken full stays
  where
    no_job : s.job ≡ None
    no_job = sym in_step.job_is ∙ ap plain_job idle

    go : (r : Result Begun Declined) → OnErr r (b.job ≡ None) → IfOk r (λ told. IsTakenOn s.history draft (plain_job b.job) told × StandsFor b s.history)
        → ((why : Refusal) → r ≡ Err (declines.Refused why) → IsFull draft (live_extents s.history) a.end why) → OnErr r (StandsFor b s.history) → TakesBy s (items.Command (commands.Begin phrase factor)) (begun r) d d b
    go (Ok told) none taken full stays =
        begun_by s phrase factor (steps.Begun told.segments told.pages) d a b in_step same taken.1 cached (begins_taken (world_by s) phrase factor draft (plain_job b.job) told term known kind_is factor_is is no_job taken.0)
    go (Err (declines.Refused why)) none taken full stays =
        let R : Option Job → Type 0 = λ o. Begins (world_by s) phrase factor (Refused why) (record (world_by s) { job = o }) in
        begun_by s phrase factor (Refused why) d a b in_step same stays cached
        (subst R (no_job ∙ sym (ap plain_job none)) (begins_full (world_by s) phrase factor draft a.end why term known kind_is factor_is is no_job in_step.stands.end_is (full why refl)))
    go (Err declines.Memory) none taken full stays = keeps_nowhere d a s in_step
