-- An archive of which the cache alone changes, and what is kept is what reads give.
use Rattle.std.proofs.Common.{IsTrue, ◌≡◌, ℕ, List, [], ◌++◌, Option, None, Result, Ok, Err, OnOk, ap, get_or, All, subst, sym}
use Rattle.std.proofs.lemmas.List.Elements.{All-nil}
use Rattle.machine_model.specs.Calls.{OnlyReads}
use Rattle.machine_model.specs.States.{DiskState}
use Rattle.pages_area.specs.Caches.{Kept, IsHeld, StandsFor as IsCacheOf}
use Rattle.pages_area.specs.CacheLaws.{LieIn}
use Rattle.pages_area.specs.Runs.{IsTaken}
use Rattle.pages_area.specs.Taken.{PagesState, HasTaken}
use Rattle.pages_area.proofs.StayLemmas.{apart_parts}
use Rattle.archive_hand.proofs.JobLemmas.{apart_without, both_stand, kept_part, written_part}
use Rattle.base_types.specs.declared.extent.Extent.{Extent}
use Rattle.model_archive.specs.Histories.{History}
use Rattle.archive_hand.specs.Jobs.{written_of}
use Rattle.archive_hand.specs.declared.job.Job.{Job}
use Rattle.archive_hand.specs.States.{ArchiveState, StandsFor, StandsBut, IsSound, CacheStands, IsSameButCache}

-- it stands for the history for which it stood
pub stands_but_cache : (a b : ArchiveState) (h : History) → IsSameButCache a b → StandsFor a h → StandsFor b h
stands_but_cache a b h same stands =
    let S : ArchiveState → Type 0 = λ x. StandsFor x h in
    subst S (sym same) (record {
      loadable = stands.loadable;
      end_is = stands.end_is;
      length_is = stands.length_is;
      changes_are = stands.changes_are;
      index_is = stands.index_is;
      plans_are = stands.plans_are;
      pages_are = stands.pages_are;
      marked_is = stands.marked_is;
      under_way = stands.under_way;
    })

-- what stands for a history does but for what it tells of words, and the other way round
pub all_but : (a : ArchiveState) (h : History) → StandsFor a h → StandsBut a h
all_but a h stands = record {
  loadable = stands.loadable;
  end_is = stands.end_is;
  length_is = stands.length_is;
  changes_are = stands.changes_are;
  plans_are = stands.plans_are;
  pages_are = stands.pages_are;
  marked_is = stands.marked_is;
  under_way = stands.under_way;
}

pub is_sound : (a : ArchiveState) (h : History) → StandsFor a h → IsSound a
is_sound a h stands = (h, all_but a h stands, λ live. stands.index_is)

pub stands_live : (a : ArchiveState) (sound : IsSound a) → IsTrue a.live → StandsFor a sound.0
stands_live a sound live = record {
  loadable = sound.1.loadable;
  end_is = sound.1.end_is;
  length_is = sound.1.length_is;
  changes_are = sound.1.changes_are;
  index_is = sound.2 live;
  plans_are = sound.1.plans_are;
  pages_are = sound.1.pages_are;
  marked_is = sound.1.marked_is;
  under_way = sound.1.under_way;
}

pub sound_but_cache : (a b : ArchiveState) → IsSameButCache a b → IsSound a → IsSound b
sound_but_cache a b same sound = subst IsSound (sym same) (
  sound.0,
  record {
    loadable = sound.1.loadable;
    end_is = sound.1.end_is;
    length_is = sound.1.length_is;
    changes_are = sound.1.changes_are;
    plans_are = sound.1.plans_are;
    pages_are = sound.1.pages_are;
    marked_is = sound.1.marked_is;
    under_way = sound.1.under_way;
  },
  sound.2,
)

-- where the cache and Pages are as they were
pub cached_on : (was now : List Kept) (old new : DiskState) → now ≡ was → new.holds.pages ≡ old.holds.pages → IsCacheOf was old.holds.pages → IsCacheOf now new.holds.pages
cached_on was now old new cache pages cached =
    let P : List ℕ → Type 0 = λ ps. IsCacheOf now ps in
    let C : List Kept → Type 0 = λ ks. IsCacheOf ks old.holds.pages in
    subst P (sym pages) (subst C (sym cache) cached)

pub none_cached : (d : DiskState) (a : ArchiveState) → a.shelf.cache ≡ [] → a.job ≡ None → CacheStands d a
none_cached d a empty idle =
    let C : List Kept → Type 0 = λ ks. IsCacheOf (ks ++ written_of a.job) d.holds.pages in
    let W : Option Job → Type 0 = λ o. IsCacheOf (written_of o) d.holds.pages in
    subst C (sym empty) (subst W (sym idle) (All-nil (IsHeld d.holds.pages)))

-- none of the pages that are kept is among those of other extents
pub kept_apart : (store : PagesState) (extents more live : List Extent) (cache : List Kept) → HasTaken store (extents ++ (more ++ live)) → LieIn live cache → All (λ k. IsTaken extents k.page → ⊥) cache
kept_apart store extents more live cache taken lie i d within one = (apart_parts extents live (apart_without extents more live taken.apart)).0 (get_or cache i d).page one (lie i d within)

-- ---- pages that were asked for

-- what is kept is as reads give it, where what was written is so too
pub kept_stands : (d : DiskState) (a x : ArchiveState) → a ≡ x → CacheStands d x → IsCacheOf a.shelf.cache d.holds.pages
kept_stands d a x same cached = kept_part a.shelf.cache (written_of a.job) d.holds.pages (subst (CacheStands d) (sym same) cached)

-- reads leave what was written
pub reads_stand : (old new : DiskState) (a x : ArchiveState) (now : List Kept) → a ≡ x → OnlyReads old new → CacheStands old x → IsCacheOf now new.holds.pages → IsCacheOf (now ++ written_of a.job) new.holds.pages
reads_stand old new a x now same reads cached kept =
    let pages : new.holds.pages ≡ old.holds.pages = ap (λ (d : DiskState). d.holds.pages) reads in
    let was = written_part a.shelf.cache (written_of a.job) old.holds.pages (subst (CacheStands old) (sym same) cached) in
    both_stand now (written_of a.job) new.holds.pages kept (subst (λ (ps : List ℕ). IsCacheOf (written_of a.job) ps) (sym pages) was)

pub on_ok_both : {T E : Type 0} (r : Result T E) (A B C : Type 0) → (A → B → C) → OnOk r A → OnOk r B → OnOk r C
on_ok_both (Ok x) A B C joins one two = joins one two
on_ok_both (Err e) A B C joins one two = tt
