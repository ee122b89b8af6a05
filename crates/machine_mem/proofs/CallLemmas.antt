-- What each call of the disk does, over plain states.
use Rattle.std.proofs.Common.{◌≡◌, ℕ, ◌+◌, ◌≤◌, max, List, [], ◌∷◌, ◌++◌, length, refl, inl, inr, ap, subst, sym, ◌∙◌, arith}
use Rattle.machine_model.specs.Areas.{Both, Bytes, part, replaced}
use Rattle.machine_model.specs.States.{Moment, DiskState}
use Rattle.machine_model.specs.Images.{IsAllowed, MayLeave, Leaves}
use Rattle.machine_model.specs.Moments.{LeavesOnly, GoesOn}
use Rattle.machine_model.specs.Calls.{Writes, Syncs, OnlyFails, OnlyReads}
use Rattle.machine_model.specs.declared.area.Area.{Area}
use Rattle.machine_model.specs.declared.area.Area.TheVariants.{Journal, Pages}
use Rattle.machine_model.specs.declared.range.Range.{Range}
use Rattle.machine_model.proofs.MomentLemmas.{goes_on_reads, since_now}
use Rattle.machine_mem.specs.Machines.{MemoryState, OnlyDisk, wrote, synced, passed, failed_disk, failed_sync}
use Rattle.machine_mem.proofs.GrowthLemmas.{Grows, grown, left_since}

-- the state before a call is remembered
grows_by_now : (old new : DiskState) → new.past ≡ old.past ++ old.now ∷ [] → Grows (old.now ∷ []) old new
grows_by_now old new past = record { past = past; keeps = λ image beside now. inr (inl now) }

pub goes_on_by_now : (old new : DiskState) → new.past ≡ old.past ++ old.now ∷ [] → GoesOn old new
goes_on_by_now old new past = grown (old.now ∷ []) old new (grows_by_now old new past)

-- one range more allows no less
allowed_more : (stable : List ℕ) (range : Range) (pending : List Range) (image : List ℕ) → IsAllowed stable pending image → IsAllowed stable (range ∷ pending) image
allowed_more stable range pending image was = record {
  no_shorter = was.no_shorter;
  no_longer = omega (arith, was.no_longer);
  untouched = λ k within untouched. was.untouched k within untouched.1;
  bytes = was.bytes;
}

-- the moment after a write
abbrev pub with_range : Area → Range → Moment → Moment
with_range area range m = record m { pending = replaced m.pending area (range ∷ part m.pending area) }

widened : (area : Area) (range : Range) (m : Moment) (image : Bytes) → MayLeave m image → MayLeave (with_range area range m) image
widened Journal range m image may = elim [ Journal ↦ allowed_more m.stable.journal range m.pending.journal image.journal (may Journal) | Pages ↦ may Pages ]
widened Pages range m image may = elim [ Journal ↦ may Journal | Pages ↦ allowed_more m.stable.pages range m.pending.pages image.pages (may Pages) ]

-- after a sync no byte is open, so what is allowed then was allowed before
allowed_synced : (stable : List ℕ) (pending : List Range) (held image : List ℕ) → IsAllowed stable pending held → IsAllowed held [] image
    → IsAllowed stable pending image
allowed_synced stable pending held image was now = record {
  no_shorter = omega (arith, was.no_shorter, now.no_shorter);
  no_longer = omega (arith, was.no_longer, now.no_longer);
  untouched = λ k within untouched. now.untouched k (omega (arith, was.no_shorter)) tt ∙ was.untouched k within untouched;
  bytes = now.bytes;
}

by_area : (d : DiskState) (image : Bytes) → ((area : Area) → IsAllowed (part d.holds area) (part (record { journal = []; pages = [] }) area) (part image area))
    → (area : Area) → IsAllowed (part d.holds area) [] (part image area)
by_area d image may = elim [ Journal ↦ may Journal | Pages ↦ may Pages ]

-- a write that was recorded, with its range pending
pub Writes-recorded : (area : Area) (at n : ℕ) (old new : DiskState) → new.past ≡ old.past ++ old.now ∷ []
    → new.now ≡ with_range area (record { at = at; count = n }) old.now → Writes area at n old new
Writes-recorded area at n old new past now = record {
  goes_on = goes_on_by_now old new past;
  stable = ap (λ m. m.stable) now;
  pending = inl (ap (λ m. m.pending) now);
  beside = ap (λ m. m.beside) now;
  during = λ image beside left. elim (left_since (old.now ∷ []) old new (grows_by_now old new past) image beside left) as (λ _. Leaves new.now image beside) [
    | inl is ↦ is
    | inr before ↦ elim before as (λ _. Leaves new.now image beside) [
      | inl was ↦
          let P : Moment → Type 0 = λ m. Leaves m image beside in
          subst P (sym now) (widened area (record { at = at; count = n }) old.now image was.0, was.1)
      | inr none ↦ absurd none
    ]
  ];
}

-- a call that failed before it touched anything
OnlyReads-fails : (old new : DiskState) → OnlyFails old new → OnlyReads old new
OnlyReads-fails old new same = same ∙ ap (λ (v : Both ℕ). record old { faults = new.faults; bytes_read = v }) (sym (ap (λ d. d.bytes_read) same))

left_by_now : (old new : DiskState) → OnlyFails old new → LeavesOnly old new (λ image beside. Leaves new.now image beside)
left_by_now old new same =
    let P : DiskState → Type 0 = λ d. LeavesOnly old d (λ image beside. Leaves d.now image beside) in
    subst P (sym same) (λ image beside left. since_now old image beside left)

pub Writes-starved : (area : Area) (at n : ℕ) (old new : DiskState) → OnlyFails old new → Writes area at n old new
Writes-starved area at n old new same =
    let now = ap (λ d. d.now) same in
    record {
      goes_on = goes_on_reads old new (OnlyReads-fails old new same);
      stable = ap (λ m. m.stable) now;
      pending = inr same;
      beside = ap (λ m. m.beside) now;
      during = left_by_now old new same;
    }

-- a sync that was recorded and made what reads give durable
pub Syncs-durable : (old new : DiskState) → new.past ≡ old.past ++ old.now ∷ [] → new.holds ≡ old.holds → MayLeave old.now old.holds
    → new.now ≡ record old.now { stable = old.holds; pending = record { journal = []; pages = [] } } → Syncs old new
Syncs-durable old new past holds may now = record {
  goes_on = goes_on_by_now old new past;
  holds = holds;
  beside = ap (λ m. m.beside) now;
  during = λ image beside left. elim (left_since (old.now ∷ []) old new (grows_by_now old new past) image beside left) as (λ _. Leaves old.now image beside) [
    | inl is ↦
        let P : Moment → Type 0 = λ m. Leaves m image beside in
        let synced = subst P now is in
        ((λ area. allowed_synced (part old.now.stable area) (part old.now.pending area) (part old.holds area) (part image area) (may area) (by_area old image synced.0 area)), synced.1)
    | inr before ↦ elim before as (λ _. Leaves old.now image beside) [ inl was ↦ was | inr none ↦ absurd none ]
  ];
}

-- a sync that failed, recorded or not
pub Syncs-failed : (old new : DiskState) → new.past ≡ old.past ++ old.now ∷ [] → new.holds ≡ old.holds → new.now ≡ old.now → Syncs old new
Syncs-failed old new past holds now = record {
  goes_on = goes_on_by_now old new past;
  holds = holds;
  beside = ap (λ m. m.beside) now;
  during = λ image beside left. elim (left_since (old.now ∷ []) old new (grows_by_now old new past) image beside left) as (λ _. Leaves old.now image beside) [
    | inl is ↦ let P : Moment → Type 0 = λ m. Leaves m image beside in subst P now is
    | inr before ↦ elim before as (λ _. Leaves old.now image beside) [ inl was ↦ was | inr none ↦ absurd none ]
  ];
}

pub Syncs-starved : (old new : DiskState) → OnlyFails old new → Syncs old new
Syncs-starved old new same =
    let now = ap (λ d. d.now) same in
    record {
      goes_on = goes_on_reads old new (OnlyReads-fails old new same);
      holds = ap (λ d. d.holds) same;
      beside = ap (λ m. m.beside) now;
      during = λ image beside left. let P : Moment → Type 0 = λ m. Leaves m image beside in subst P now (left_by_now old new same image beside left);
    }

-- no length, count or moment fell
pub OnlyDisk-recorded : (x y : MemoryState) → y.source ≡ x.source → y.sink ≡ x.sink → x.disk.faults ≤ y.disk.faults
    → ((area : Area) → part x.disk.reach area ≤ part y.disk.reach area) → y.disk.bytes_read ≡ x.disk.bytes_read → y.disk.now.beside ≡ x.disk.now.beside
    → y.disk.past ≡ x.disk.past ++ x.disk.now ∷ [] → y.has_lost ≡ x.has_lost → OnlyDisk x y
OnlyDisk-recorded x y source sink faults reach read beside past lost = record {
  source = source;
  sink = sink;
  faults = faults;
  reach = reach;
  read = λ area. let e = ap (λ b. part b area) read in omega arith;
  beside = beside;
  goes_on = goes_on_by_now x.disk y.disk past;
  lost = λ was. lost ∙ was;
}

pub OnlyDisk-reads : (x y : MemoryState) → y.source ≡ x.source → y.sink ≡ x.sink → x.disk.faults ≤ y.disk.faults → OnlyReads x.disk y.disk
    → ((area : Area) → part x.disk.bytes_read area ≤ part y.disk.bytes_read area) → y.has_lost ≡ x.has_lost → OnlyDisk x y
OnlyDisk-reads x y source sink faults same read lost = record {
  source = source;
  sink = sink;
  faults = faults;
  reach = λ area. let e = ap (λ d. part d.reach area) same in omega arith;
  read = read;
  beside = ap (λ d. d.now.beside) same;
  goes_on = goes_on_reads x.disk y.disk same;
  lost = λ was. lost ∙ was;
}

pub OnlyDisk-fails : (x y : MemoryState) → y.source ≡ x.source → y.sink ≡ x.sink → x.disk.faults ≤ y.disk.faults → OnlyFails x.disk y.disk → y.has_lost ≡ x.has_lost → OnlyDisk x y
OnlyDisk-fails x y source sink faults same lost =
    OnlyDisk-reads x y source sink faults (OnlyReads-fails x.disk y.disk same) (λ area. let e = ap (λ d. part d.bytes_read area) same in omega arith) lost

-- what is allowed in each area is allowed in both
pub allowed_by_area : (m : Moment) (image : Bytes) → IsAllowed m.stable.journal m.pending.journal image.journal
    → IsAllowed m.stable.pages m.pending.pages image.pages → MayLeave m image
allowed_by_area m image journal pages = elim [ Journal ↦ journal | Pages ↦ pages ]

-- a machine whose disk failed so often
abbrev pub with_faults : ℕ → MemoryState → MemoryState
with_faults n x = record x { disk = record x.disk { faults = n } }

grows_reach : (area : Area) (n : ℕ) (reach : Both ℕ) → (other : Area) → part reach other ≤ part (replaced reach area (max (part reach area) n)) other
grows_reach Journal n reach = elim [ Journal ↦ omega arith | Pages ↦ omega arith ]
grows_reach Pages n reach = elim [ Journal ↦ omega arith | Pages ↦ omega arith ]

-- each call's outcome: the state after it is one of these, with some count of faults
pub OnlyDisk-wrote : (x y : MemoryState) (area : Area) (at : ℕ) (bytes : List ℕ) (landed n : ℕ) → y ≡ wrote area at bytes landed x → y.disk.faults ≤ n
    → OnlyDisk x (with_faults n y)
OnlyDisk-wrote x y area at bytes landed n is risen =
    let P : MemoryState → Type 0 = λ z. OnlyDisk x (with_faults n z) in
    let same = ap (λ z. z.disk.faults) is in
    let later : x.disk.faults ≤ n = omega arith in
    let z = with_faults n (wrote area at bytes landed x) in
    subst P (sym is) (OnlyDisk-recorded x z refl refl later (grows_reach area (at + landed) x.disk.reach) refl refl refl refl)

pub Writes-wrote : (x y : MemoryState) (area : Area) (at : ℕ) (bytes : List ℕ) (landed n : ℕ) → y ≡ wrote area at bytes landed x
    → Writes area at (length bytes) x.disk (with_faults n y).disk
Writes-wrote x y area at bytes landed n is =
    let P : MemoryState → Type 0 = λ z. Writes area at (length bytes) x.disk (with_faults n z).disk in
    let z = with_faults n (wrote area at bytes landed x) in
    subst P (sym is) (Writes-recorded area at (length bytes) x.disk z.disk refl refl)

pub OnlyDisk-stayed : (x y : MemoryState) (n : ℕ) → y ≡ x → y.disk.faults ≤ n → OnlyDisk x (with_faults n y)
OnlyDisk-stayed x y n is risen =
    let P : MemoryState → Type 0 = λ z. OnlyDisk x (with_faults n z) in
    let same = ap (λ z. z.disk.faults) is in
    let later : x.disk.faults ≤ n = omega arith in
    subst P (sym is) (OnlyDisk-fails x (with_faults n x) refl refl later refl refl)

pub Writes-stayed : (x y : MemoryState) (area : Area) (at count n : ℕ) → y ≡ x → Writes area at count x.disk (with_faults n y).disk
Writes-stayed x y area at count n is =
    let P : MemoryState → Type 0 = λ z. Writes area at count x.disk (with_faults n z).disk in
    subst P (sym is) (Writes-starved area at count x.disk (with_faults n x).disk refl)

pub OnlyDisk-synced : (x y : MemoryState) (n : ℕ) → y ≡ synced x → y.disk.faults ≤ n → OnlyDisk x (with_faults n y)
OnlyDisk-synced x y n is risen =
    let P : MemoryState → Type 0 = λ z. OnlyDisk x (with_faults n z) in
    let same = ap (λ z. z.disk.faults) is in
    let later : x.disk.faults ≤ n = omega arith in
    subst P (sym is) (OnlyDisk-recorded x (with_faults n (synced x)) refl refl later (λ area. omega arith) refl refl refl refl)

pub Syncs-synced : (x y : MemoryState) (n : ℕ) → y ≡ synced x → MayLeave x.disk.now x.disk.holds → Syncs x.disk (with_faults n y).disk
Syncs-synced x y n is may =
    let P : MemoryState → Type 0 = λ z. Syncs x.disk (with_faults n z).disk in
    subst P (sym is) (Syncs-durable x.disk (with_faults n (synced x)).disk refl refl may refl)

pub OnlyDisk-passed : (x y : MemoryState) (n : ℕ) → y ≡ passed x → y.disk.faults ≤ n → OnlyDisk x (with_faults n y)
OnlyDisk-passed x y n is risen =
    let P : MemoryState → Type 0 = λ z. OnlyDisk x (with_faults n z) in
    let same = ap (λ z. z.disk.faults) is in
    let later : x.disk.faults ≤ n = omega arith in
    subst P (sym is) (OnlyDisk-recorded x (with_faults n (passed x)) refl refl later (λ area. omega arith) refl refl refl refl)

pub Syncs-passed : (x y : MemoryState) (n : ℕ) → y ≡ passed x → Syncs x.disk (with_faults n y).disk
Syncs-passed x y n is =
    let P : MemoryState → Type 0 = λ z. Syncs x.disk (with_faults n z).disk in
    subst P (sym is) (Syncs-failed x.disk (with_faults n (passed x)).disk refl refl refl)

pub Syncs-stayed : (x y : MemoryState) (n : ℕ) → y ≡ x → Syncs x.disk (with_faults n y).disk
Syncs-stayed x y n is =
    let P : MemoryState → Type 0 = λ z. Syncs x.disk (with_faults n z).disk in
    subst P (sym is) (Syncs-starved x.disk (with_faults n x).disk refl)

-- a sync that failed, recorded or not, isn't forgotten
pub OnlyDisk-lost : (x y z : MemoryState) → OnlyDisk x (failed_disk y) → z ≡ failed_sync y → OnlyDisk x z
OnlyDisk-lost x y z one is =
    let P : MemoryState → Type 0 = λ u. OnlyDisk x u in
    subst P (sym is) (record {
      source = one.source;
      sink = one.sink;
      faults = one.faults;
      reach = one.reach;
      read = one.read;
      beside = one.beside;
      goes_on = one.goes_on;
      lost = λ was. refl;
    })

pub Syncs-lost : (x y z : MemoryState) → Syncs x.disk (failed_disk y).disk → z ≡ failed_sync y → Syncs x.disk z.disk
Syncs-lost x y z one is = let P : MemoryState → Type 0 = λ u. Syncs x.disk u.disk in subst P (sym is) one
