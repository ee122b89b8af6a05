-- The calls of a stint: what is asked of them, and what the last pages come to on the disk.
use Rattle.std.proofs.Common.{All, Bool, IsTrue, List, Option, Some, [], arith, inl, inr, length, length-append, refl, subst, sym, take, ℕ, ◌*◌, ◌++◌, ◌+◌, ◌-◌, ◌<◌, ◌∷◌, ◌≡◌, ◌≤◌}
use Rattle.std.specs.List.{AllZip}
use Rattle.std.proofs.Math.Seq.{take-add}
use Rattle.std.proofs.lemmas.Bool.{cases_lt}
use Rattle.std.proofs.lemmas.List.{take_all}
use Rattle.std.proofs.lemmas.List.Elements.{All-append, All-cons, All-head, All-nil, All-tail}
use Rattle.std.proofs.lemmas.List.FromFn.{length-map-range_with_len}
use Rattle.std.proofs.lemmas.List.Sums.{sum_by-cons}
use Rattle.machine_model.specs.Calls.{IsSynced, Syncs}
use Rattle.machine_model.specs.Images.{MayLeave}
use Rattle.machine_model.specs.States.{DiskState}
use Rattle.base_types.specs.declared.extent.Extent.{Extent}
use Rattle.journal_gates.specs.Crash.{Appends, KeepsPages}
use Rattle.journal_gates.specs.InStep.{IsInStep}
use Rattle.pages_area.specs.Caches.{Kept, StandsFor as IsCacheOf}
use Rattle.pages_area.specs.CacheLaws.{LieIn}
use Rattle.pages_area.specs.Crash.{ChangesOnly}
use Rattle.pages_area.specs.Live.{IsInside}
use Rattle.pages_area.specs.Pieces.{piece}
use Rattle.pages_area.specs.Pieces as paging
use Rattle.pages_area.specs.Runs.{IsTaken, pages_for}
use Rattle.pages_area.specs.Taken.{HasTaken}
use Rattle.pages_area.specs.Wrote.{HoldsPiece, Stored, extents_of, ranges_of}
use Rattle.pages_area.proofs.ChangeLemmas.{changes_then_sync}
use Rattle.journal_entries.specs.declared.place.Place.{Place}
use Rattle.pages_sublists.specs.Paged.{ReachPages, WrotePages, page_ranges, pages_of, some_pages}
use Rattle.pages_sublists.specs.Preparing.{IsFor, PreparedState, extents, pieces, pieces_of}
use Rattle.pages_sublists.proofs.StintLemmas.{places_reach, rest_stored, some_change_places}
use Rattle.model_archive.specs.Plans.{live_extents}
use Rattle.model_archive.specs.Steps.{pages_in}
use Rattle.model_archive.specs.declared.stored.StoredPlan.{StoredPlan}
use Rattle.archive_plans.specs.Shelves.{extents_all}
use Rattle.archive_hand.specs.Jobs.{IsUnderWay, IsWaiting, job_pages, places_of}
use Rattle.archive_hand.specs.States.{ArchiveState, IsSound}
use Rattle.archive_hand.specs.Storing.{IsBegun, IsPutDown}
use Rattle.archive_hand.specs.declared.job.Job.{Job}
use Rattle.archive_hand.proofs.CacheLemmas.{kept_apart}
use Rattle.archive_hand.proofs.JobLemmas.{reach_on, written_part}
use Rattle.archive_hand.proofs.PutLemmas.{begun, put_down}

-- Sublists have as many pages as their places take.
pub pages_many : (places : List Place) (all : List (List ℕ)) → AllZip IsFor places all → length (pages_of (pieces_of places all)) ≡ pages_in (extents places)
pages_many [] all each = refl
pages_many (p ∷ places) [] each = absurd each
pages_many (p ∷ places) (b ∷ all) each =
    let front = paging.pieces p.extent.first b in
    let behind = pages_of (pieces_of places all) in
    omega (
      arith,
      length-append front behind,
      length-map-range_with_len (piece p.extent.first b) 0 (pages_for (length b)),
      each.0.size,
      pages_many places all each.1,
      sum_by-cons (λ (e : Extent). pages_for e.bytes) p.extent (extents places),
    )

-- ---- what waits, of an archive that may be spent

pub sound_waits : (a : ArchiveState) (sound : IsSound a) (job : Job) → a.job ≡ Some job → IsWaiting sound.0 a.shelf.room job
sound_waits a sound job is = subst (IsUnderWay sound.0 a.shelf.room) is sound.1.under_way

pub sound_taken : (a : ArchiveState) (sound : IsSound a) (job : Job) → a.job ≡ Some job → HasTaken a.shelf.pages (extents job.ready.prepared.places ++ extents_all a.shelf.plans)
sound_taken a sound job is =
    let has = subst (λ (l : List StoredPlan). HasTaken a.shelf.pages (places_of a.job ++ extents_all l)) (sym sound.1.plans_are) sound.1.pages_are in
    subst (λ (o : Option Job). HasTaken a.shelf.pages (places_of o ++ extents_all a.shelf.plans)) is has

pub sound_live : (a : ArchiveState) (sound : IsSound a) (job : Job) → a.job ≡ Some job → HasTaken a.shelf.pages (extents job.ready.prepared.places ++ live_extents sound.0)
sound_live a sound job is = subst (λ (o : Option Job). HasTaken a.shelf.pages (places_of o ++ live_extents sound.0)) is sound.1.pages_are

-- none of its pages is kept
pub sound_unkept : (a : ArchiveState) (sound : IsSound a) (job : Job) → a.job ≡ Some job → LieIn (extents_all a.shelf.plans) a.shelf.cache → All (λ k. IsTaken (extents job.ready.prepared.places) k.page → ⊥) a.shelf.cache
sound_unkept a sound job is lie = kept_apart a.shelf.pages (extents job.ready.prepared.places) [] (extents_all a.shelf.plans) a.shelf.cache (sound_taken a sound job is) lie

-- what is sound is so whether it may be changed or not
pub sound_at : (a : ArchiveState) (live : Bool) → IsSound a → IsTrue a.live → IsSound (record a { live = live })
sound_at a live sound was = (
  sound.0,
  record {
    loadable = sound.1.loadable;
    end_is = sound.1.end_is;
    length_is = sound.1.length_is;
    changes_are = sound.1.changes_are;
    plans_are = sound.1.plans_are;
    pages_are = sound.1.pages_are;
    marked_is = sound.1.marked_is;
    under_way = sound.1.under_way;
  },
  λ now. sound.2 was,
)

-- ---- how far a disk reaches

-- as far as what was written, with the next pages
pub reach_more : (job : Job) (n m : ℕ) → n ≤ m → ReachPages n (take job.written (job_pages job)) → ReachPages m (some_pages job.written 8 job.ready.prepared) → ReachPages m (take (job.written + 8) (job_pages job))
reach_more job n m longer was now =
    let R : Kept → Type 0 = λ k. k.page * 4096 + length k.bytes ≤ m in
    subst (λ (ks : List Kept). ReachPages m ks) (sym (take-add job.written 8 (job_pages job)))
    (All-append R (take job.written (job_pages job)) (some_pages job.written 8 job.ready.prepared) (reach_on n m (take job.written (job_pages job)) longer was) now)

-- and once no page is left, as far as its places
pub reach_places : (job : Job) (n m : ℕ) → AllZip IsFor job.ready.prepared.places job.ready.prepared.spellings → length (job_pages job) ≤ job.written + 8 → n ≤ m → ReachPages n (take job.written (job_pages job))
    → ReachPages m (some_pages job.written 8 job.ready.prepared) → All (λ (p : Place). IsInside m p.extent) job.ready.prepared.places
reach_places job n m each last longer was now =
    places_reach job.ready.prepared.places job.ready.prepared.spellings m each
    (subst (λ (ks : List Kept). ReachPages m ks) (take_all (job.written + 8) (job_pages job) last) (reach_more job n m longer was now))

-- ---- the last pages are written, all is made durable, and the entry is appended

-- the places of what Pages hold lie inside
inside_at : (e : Extent) (n : ℕ) → (0 < e.bytes → e.first * 4096 + e.bytes ≤ n) → (e.bytes ≡ 0 → e.first ≡ 0) → IsInside n e
inside_at e n inside empty = elim (cases_lt 0 e.bytes) [
  | inl some ↦ inside some
  | inr none ↦ omega (arith, none, empty (omega (arith, none)))
]

held_inside : (places : List Place) (all : List (List ℕ)) (pages : List ℕ) → AllZip IsFor places all → All (HoldsPiece pages) (pieces_of places all) → All (IsInside (length pages)) (extents_of (pieces_of places all))
held_inside [] all pages each held = All-nil (IsInside (length pages))
held_inside (p ∷ places) [] pages each held = absurd each
held_inside (p ∷ places) (b ∷ all) pages each held =
    let one = All-head (HoldsPiece pages) (record { extent = p.extent; bytes = b }) (pieces_of places all) held in
    All-cons (IsInside (length pages)) p.extent (extents_of (pieces_of places all)) (inside_at p.extent (length pages) one.inside each.0.empty)
    (held_inside places all pages each.1 (All-tail (HoldsPiece pages) (record { extent = p.extent; bytes = b }) (pieces_of places all) held))

-- some of its pages are written, and nothing else
pub rest_begun : (bodies : List (List ℕ)) (prepared : PreparedState) (written end : ℕ) (old mid : DiskState) → AllZip IsFor prepared.places prepared.spellings → IsInStep old end bodies
    → ChangesOnly (page_ranges (some_pages written 8 prepared)) old mid → IsBegun bodies (pieces prepared) old mid
rest_begun bodies prepared written end old mid each step changes = begun bodies (pieces prepared) end old mid step (some_change_places prepared.places prepared.spellings 8 written old mid each changes)

-- and a sync behind
pub rest_synced : (prepared : PreparedState) (written : ℕ) (old mid then : DiskState) → AllZip IsFor prepared.places prepared.spellings → ChangesOnly (page_ranges (some_pages written 8 prepared)) old mid → Syncs mid then
    → ChangesOnly (ranges_of (pieces prepared)) old then
rest_synced prepared written old mid then each changes syncs = changes_then_sync (ranges_of (pieces prepared)) (some_change_places prepared.places prepared.spellings 8 written old mid each changes) syncs

-- all of its pages are written and durable
pub rest_there : (cache : List Kept) (prepared : PreparedState) (written : ℕ) (old mid then : DiskState) → AllZip IsFor prepared.places prepared.spellings → length (pages_of (pieces prepared)) ≤ written + 8
    → WrotePages (some_pages written 8 prepared) old.holds mid.holds → IsCacheOf (cache ++ take (written + 8) (pages_of (pieces prepared))) mid.holds.pages → Syncs mid then → IsSynced mid then
    → Stored (pieces prepared) old then
rest_there cache prepared written old mid then each last wrote held syncs synced =
    rest_stored prepared.places prepared.spellings 8 written old mid then each last wrote (written_part cache (take (written + 8) (pages_of (pieces prepared))) mid.holds.pages held) syncs synced

pub rest_down : (bodies : List (List ℕ)) (frame : List ℕ) (prepared : PreparedState) (end : ℕ) (old then new : DiskState) → AllZip IsFor prepared.places prepared.spellings → IsInStep old end bodies → MayLeave old.now old.holds
    → ChangesOnly (ranges_of (pieces prepared)) old then → then.now.beside ≡ old.now.beside → Stored (pieces prepared) old then → (IsInStep then end bodies → Appends bodies frame then new) → KeepsPages then new
    → IsPutDown bodies frame (pieces prepared) then.holds.pages old new
rest_down bodies frame prepared end old then new each step allowed changes same stored appends pages =
    put_down bodies frame (pieces prepared) end old then new step allowed changes same stored (held_inside prepared.places prepared.spellings then.holds.pages each stored.wrote.each) appends pages
