-- What an archive that was loaded stands for, and each image left.
use Rattle.std.proofs.Common.{None, ◌≡◌, ℕ, ◌<◌, ◌≤◌, List, [], ◌∷◌, length, All, Result, Ok, Err, IfOk, inl, inr, refl, ap, subst, sym, ◌∙◌, arith, Bool, length-append}
use Rattle.std.proofs.lemmas.List.Elements.{All-nil}
use Rattle.machine_model.specs.Areas.{Bytes}
use Rattle.pages_area.specs.Live.{AreLive, IsInside}
use Rattle.machine_model.specs.States.{DiskState}
use Rattle.machine_model.specs.Images.{MayLeave, Only}
use Rattle.lists_versions.specs.declared.change.Change.{Change}
use Rattle.pages_area.proofs.StayLemmas.{apart_parts}
use Rattle.journal_gates.specs.Spelled.{Spells, EachSpells}
use Rattle.journal_gates.specs.InStep.{IsInStep}
use Rattle.journal_gates.specs.Crash.{KeepsPages, KeepsBodies}
use Rattle.model_archive.specs.Histories.{History, end_of}
use Rattle.model_archive.specs.Plans.{live_extents}
use Rattle.model_archive.specs.Stands.{bodies_of, EachStands}
use Rattle.model_archive.proofs.HistoryLemmas.{end_of-least, end_of_is}
use Rattle.archive_hand.specs.Jobs.{places_of, plain_job}
use Rattle.archive_hand.specs.States.{ArchiveState, StandsFor, Reaches, AreInStepBy}
use Rattle.archive_plans.specs.Shelves.{ShelfState, extents_all}
use Rattle.lists_index.specs.Indexes.{IndexState, Indexes}
use Rattle.archive_hand.specs.Changing.{KeepsHistory}
use Rattle.pages_area.specs.Taken.{HasTaken}
use Rattle.journal_gates.specs.Records.{front}
use Rattle.machine_model.specs.Calls.{OnlyReads}
use Rattle.journal_gates.specs.declared.head.Head.{Head}
use Rattle.base_types.specs.declared.text_place.TextPlace.{TextPlace}
use Rattle.model_archive.specs.Histories as histories
use Rattle.model_archive.specs.declared.stored.StoredPlan.{StoredPlan}
use Rattle.journal_gates.specs.declared.error.JournalError.{JournalError}
use Rattle.journal_gates.specs.declared.error.JournalError.TheVariants.{Failed, NotJournal, Memory}
use Rattle.archive_entries.specs.declared.error.LoadError.{LoadError}
use Rattle.archive_entries.specs.declared.error.LoadError.TheVariants.{NotArchive}
use Rattle.archive_entries.specs.Causes.{load_error_of}
use Rattle.archive_entries.specs.Replaying.{IsReplayed}
use Rattle.std.proofs.lemmas.Bool.{cases_lt}
use Rattle.archive_hand.specs.Stored.{Store, HasSame}
use Rattle.archive_hand.proofs.AddLemmas.{step_reads}
use Rattle.archive_hand.proofs.CacheLemmas.{none_cached}
use Rattle.archive_hand.proofs.ByReadsLemmas.{all_same, same_as}

-- ---- what is kept

-- Where each image left spells the bodies of a history for which each image stood, and has the pages of one of these, it stands for the history.
-- Reads leave what they find.
pub history_loaded : (h : History) (old mid new : DiskState) → MayLeave old.now old.holds → EachStands old h → (EachSpells old (bodies_of h) → KeepsBodies (bodies_of h) old mid) → KeepsPages old mid → OnlyReads mid new
    → KeepsHistory h old new
history_loaded h old mid new allowed each keeps pages same =
    let kept = keeps (λ image allowed. (each image allowed).spelled) in
    subst (λ (d : DiskState). KeepsHistory h old d) (sym same) (record {
      goes_on = let g = kept.goes_on in record { later = g.later; nothing_else = g.nothing_else; keeps = g.keeps };
      images = λ image beside left.
          let is = kept.images image beside left in
          let was = pages.images image beside left in
          (record { spelled = is.0; loadable = (each old.holds allowed).loadable; held = rw was.2 (each was.0 was.1).held }, is.1);
    })

pub pages_reads : (a b c : DiskState) → KeepsPages a b → OnlyReads b c → KeepsPages a c
pages_reads a b c keeps same =
    subst (λ (d : DiskState). KeepsPages a d) (sym same) (record {
      goes_on = let g = keeps.goes_on in record { later = g.later; nothing_else = g.nothing_else; keeps = g.keeps };
      images = keeps.images;
    })

-- ---- the archive, or why there is none

-- the archive of what was gone over
pub stands_replayed : (h : History) (live : Bool) (heads : List Head) (changes : List (Change TextPlace)) (index : IndexState) (plans : List StoredPlan) (shelf : ShelfState) (end : ℕ) (marked : Bool)
    → end ≡ end_of h → length heads ≡ length h → IsReplayed h heads changes plans → Indexes index (histories.changes h) → shelf.plans ≡ plans → HasTaken shelf.pages (extents_all plans) → marked ≡ histories.is_marked h
    → StandsFor (record { end = end; live = live; length = length heads; changes = changes; index = index; shelf = shelf; marked = marked; asked = []; job = None }) h
stands_replayed h live heads changes index plans shelf end marked at many replayed indexed same taken mark = record {
  loadable = replayed.loadable;
  end_is = at;
  length_is = many;
  changes_are = replayed.placed;
  index_is = indexed;
  plans_are = same ∙ replayed.plans_are;
  pages_are = subst (λ (l : List StoredPlan). HasTaken shelf.pages (extents_all l)) replayed.plans_are taken;
  marked_is = mark;
  under_way = tt;
}

-- a journal of at most 17 bytes spells the bodies of the empty history alone
pub none_spelled : (h : History) (bytes : List ℕ) → length bytes ≤ 17 → Spells bytes (bodies_of h) → h ≡ []
none_spelled [] bytes short spelled = refl
none_spelled (e ∷ h) bytes short (inl new) = absurd (omega (arith, ap length new.1))
none_spelled (e ∷ h) bytes short (inr long) = absurd (omega (arith, short, ap length long.whole, length-append (front (bodies_of (e ∷ h))) (long.gate ∷ long.rest), end_of_is (e ∷ h), end_of-least (e ∷ h)))

-- what the journal's error is where a load hands it on
pub journal_exit : {T U : Type 0} (r : Result T JournalError) (s : Result U LoadError) (e : JournalError) (y : LoadError) (at : ℕ) → r ≡ Err e → s ≡ Err y → y ≡ load_error_of e
    → s ≡ Err (NotArchive at) → r ≡ Err (NotJournal at)
journal_exit r s Failed y at was made same is = absurd cc
journal_exit r s (NotJournal n) y at was made same is = cc
journal_exit r s Memory y at was made same is = absurd cc

-- two things of what a call gave make a third
pub IfOk-both : {T E : Type 0} (r : Result T E) (P Q R : T → Type 0) → ((x : T) → P x → Q x → R x) → IfOk r P → IfOk r Q → IfOk r R
IfOk-both (Ok x) P Q R both p q = both x p q
IfOk-both (Err e) P Q R both p q = tt

-- the live places of an archive that was loaded lie well
pub lie_well : (h : History) (d : DiskState) (a : ArchiveState) → StandsFor a h → Reaches d.reach a → length d.holds.pages ≡ d.reach.pages → AreLive (live_extents h) (length d.holds.pages)
lie_well h d a stands reaches same =
    let I : ℕ → Type 0 = λ reach. All (IsInside reach) (live_extents h) in
    (subst I (sym same) (subst (λ (plans : List StoredPlan). All (IsInside d.reach.pages) (extents_all plans)) stands.plans_are reaches.1), (apart_parts (places_of a.job) (live_extents h) stands.pages_are.apart).1)

-- ---- in step

-- after a load each image has the pages that reads give, or the archive has no live place
pub loaded_by : (a : ArchiveState) (mid new : DiskState) (old : Bytes) (end : ℕ) (bodies : List (List ℕ)) (h : History)
    → StandsFor a h → a.shelf.cache ≡ [] → a.job ≡ None → a.end ≡ end → bodies_of h ≡ bodies → Spells old.journal bodies → IsInStep mid end bodies → OnlyReads mid new → (17 < length old.journal → Only mid.holds mid) → mid.holds.pages ≡ old.pages
    → Reaches new.reach a → length new.holds.pages ≡ new.reach.pages → a.asked ≡ []
    → (s : Store) × (AreInStepBy new a s × Spells old.journal (bodies_of s.history) × (s.pages ≡ old.pages) × (s.asked ≡ []) × (s.job ≡ None))
loaded_by a mid new old end bodies h stands empty idle end_is same spelled step reads one pages reach long unasked =
    let there : Spells old.journal (bodies_of h) = subst (λ (l : List (List ℕ)). Spells old.journal l) (sym same) spelled in
    let read : new.holds.pages ≡ old.pages = ap (λ (d : DiskState). d.holds.pages) reads ∙ pages in
    let live : AreLive (live_extents h) (length old.pages) = rw read at (lie_well h new a stands reach long) in (
      record { history = h; asked = []; pages = old.pages; kept = a.shelf.cache; read = new.bytes_read.pages; job = None },
      (
        record {
          stands = stands;
          asked_are = unasked;
          journal = subst (λ (l : List (List ℕ)). IsInStep new a.end l) (sym same) (subst (λ (n : ℕ). IsInStep new n bodies) (sym end_is) (step_reads mid new end bodies step reads));
          pages_are = read;
          kept_are = refl;
          read_is = refl;
          job_is = ap plain_job idle;
          live = live;
          same = λ image allowed. elim (cases_lt 17 (length old.journal)) as (λ _. All (HasSame old.pages image.pages) (live_extents h)) [
            | inl longer ↦
                let is : image.pages ≡ old.pages = ap (λ (b : Bytes). b.pages) (one longer image (rw (ap (λ (d : DiskState). d.now) reads) at allowed)) ∙ pages in
                same_as old.pages old.pages image.pages (live_extents h) is (all_same old.pages (live_extents h) live.0)
            | inr short ↦ rw (none_spelled h old.journal short there) (All-nil (HasSame old.pages image.pages))
          ];
          cached = none_cached new a empty idle;
        },
        there,
        refl,
        refl,
        refl,
      ),
    )
