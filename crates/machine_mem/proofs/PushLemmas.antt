-- What a push does, over plain states.
use Rattle.std.proofs.Common.{◌≡◌, ℕ, ◌≤◌, List, [], ◌++◌, take, drop, length, append_assoc, Result, Ok, Err, refl, inl, inr, ap, subst, sym, ◌∙◌, arith}
use Rattle.std.proofs.lemmas.List.{append-nil, take-take, length-take-le, take_all, take-append-drop}
use Rattle.machine_model.specs.States.{Moment, DiskState}
use Rattle.machine_model.specs.Images.{MayLeave, Leaves}
use Rattle.machine_model.specs.Pushes.{IsPrefix, IsSameBeside, OnlyShows, IsShownByPiece, taken}
use Rattle.machine_model.specs.declared.area.Failed.{Failed}
use Rattle.machine_model.proofs.MomentLemmas.{goes_on_same, since_now}
use Rattle.machine_mem.specs.Moments.{along}
use Rattle.machine_mem.specs.Machines.{MemoryState, OnlySink, Pushed, showed, passed}
use Rattle.machine_mem.proofs.GrowthLemmas.{Grows, grown, left_since, since_left, left_along, leaves_along}

-- a push of a part of a piece, recorded
pub record Shows (piece : List ℕ) (count : ℕ) (old new : DiskState) : Type 0 where
  pub within : count ≤ length piece
  pub past : new.past ≡ old.past ++ along old.now (take count piece)
  pub now : new.now ≡ record old.now { beside = old.now.beside ++ take count piece }

grows_along : (piece : List ℕ) (count : ℕ) (old new : DiskState) → Shows piece count old new → Grows (along old.now (take count piece)) old new
grows_along piece count old new shows = record {
  past = shows.past;
  keeps = λ image beside now. inr (leaves_along old.now (take count piece) image beside 0 now.0 (omega arith) (now.1 ∙ sym (append-nil old.now.beside)));
}

pub IsShownByPiece-recorded : (piece : List ℕ) (count : ℕ) (old new : DiskState) → Shows piece count old new → IsShownByPiece old.now.beside piece count old new
IsShownByPiece-recorded piece count old new shows =
    let grows = grows_along piece count old new shows in
    let short : length (take count piece) ≡ count = length-take-le count piece shows.within in
    record {
      goes_on = grown (along old.now (take count piece)) old new grows;
      images = λ image beside. (
        λ left. elim (left_since (along old.now (take count piece)) old new grows image beside left)
            as (λ _. MayLeave old.now image × ((k : ℕ) × (k ≤ count) × (beside ≡ old.now.beside ++ take k piece))) [
              | inl now ↦
                  let P : Moment → Type 0 = λ m. Leaves m image beside in
                  let is = subst P shows.now now in
                  (is.0, (count, omega arith, is.1))
              | inr during ↦
                  let found = left_along old.now (take count piece) image beside during in
                  let low : found.front.0 ≤ count = omega (arith, found.front.1) in
                  (found.may, (found.front.0, low, found.front.2 ∙ ap (λ (l : List ℕ). old.now.beside ++ l) (take-take found.front.0 count piece low)))
            ],
        λ h. since_left (along old.now (take count piece)) old new grows image beside
            (leaves_along old.now (take count piece) image beside h.1.0 h.0 (omega (arith, h.1.1))
            (h.1.2 ∙ sym (ap (λ (l : List ℕ). old.now.beside ++ l) (take-take h.1.0 count piece h.1.1)))),
      );
    }

-- a push that found no memory
pub IsShownByPiece-starved : (piece : List ℕ) (d : DiskState) → IsShownByPiece d.now.beside piece 0 d d
IsShownByPiece-starved piece d = record {
  goes_on = goes_on_same d;
  images = λ image beside. (
    λ left. let now = since_now d image beside left in (now.0, (0, omega arith, now.1 ∙ sym (append-nil d.now.beside))),
    λ h. let none : h.1.0 ≡ 0 = omega arith in inl (h.0, h.1.2 ∙ ap (λ k. d.now.beside ++ take k piece) none ∙ append-nil d.now.beside),
  );
}

-- a shorter front is a prefix of a longer one
front_prefix : (before piece beside : List ℕ) (k count : ℕ) → k ≤ count → beside ≡ before ++ take k piece → IsPrefix beside (before ++ take count piece)
front_prefix before piece beside k count low is =
    let rest : List ℕ = drop k (take count piece) in (
      rest,
      ap (λ (l : List ℕ). before ++ l) (sym (take-append-drop k (take count piece)) ∙ ap (λ (l : List ℕ). l ++ rest) (take-take k count piece low))
          ∙ sym (append_assoc before (take k piece) rest) ∙ ap (λ (l : List ℕ). l ++ rest) (sym is),
    )

pub OnlyShows-by_piece : (before piece : List ℕ) (count : ℕ) (old new : DiskState) → IsShownByPiece before piece count old new
    → OnlyShows old new before (before ++ take count piece)
OnlyShows-by_piece before piece count old new by = record {
  goes_on = by.goes_on;
  grows = (take count piece, refl);
  since = λ image beside left.
      let h = (by.images image beside).0 left in
      (h.0, (take h.1.0 piece, h.1.2), front_prefix before piece beside h.1.0 count h.1.1 h.1.2);
}

-- one push of a piece, as the sink's law and the machine's ask
pub OnlySink-pushed : (x y : MemoryState) (piece : List ℕ) (answer : Result ℕ Failed) → Pushed x piece answer y
    → y.source ≡ x.source → IsSameBeside x.disk y.disk → y.has_lost ≡ x.has_lost → x.sink.faults ≤ y.sink.faults → OnlySink x y
OnlySink-pushed x y piece answer by source beside lost faults =
    let P : List ℕ → Type 0 = λ shown. OnlyShows x.disk y.disk x.sink.shown shown in
    record {
      source = source;
      beside = beside;
      shows = subst P (sym by.shown) (OnlyShows-by_piece x.sink.shown piece (taken answer) x.disk y.disk by.moments);
      lost = lost;
      faults = faults;
    }

-- a machine whose sink failed so often
abbrev pub with_sink_faults : ℕ → MemoryState → MemoryState
with_sink_faults n x = record x { sink = record x.sink { faults = n } }

-- each push's outcome: the state after it is one of these, with some count of faults
pub Pushed-showed : (x y : MemoryState) (piece : List ℕ) (n : ℕ) → y ≡ showed piece x → x.disk.now.beside ≡ x.sink.shown
    → Pushed x piece (Ok (length piece)) (with_sink_faults n y)
Pushed-showed x y piece n is beside =
    let all : take (length piece) piece ≡ piece = take_all (length piece) piece (omega arith) in
    let P : MemoryState → Type 0 = λ z. Pushed x piece (Ok (length piece)) (with_sink_faults n z) in
    let Q : List ℕ → Type 0 = λ before. IsShownByPiece before piece (length piece) x.disk (showed piece x).disk in
    subst P (sym is) (record {
      shown = ap (λ (l : List ℕ). x.sink.shown ++ l) (sym all);
      moments = subst Q beside (IsShownByPiece-recorded piece (length piece) x.disk (showed piece x).disk (record {
        within = omega arith;
        past = ap (λ (l : List ℕ). x.disk.past ++ along x.disk.now l) (sym all);
        now = ap (λ (l : List ℕ). record x.disk.now { beside = x.disk.now.beside ++ l }) (sym all);
      }));
    })

pub Pushed-passed : (x y : MemoryState) (piece : List ℕ) (failed : Failed) (n : ℕ) → y ≡ passed x → x.disk.now.beside ≡ x.sink.shown
    → Pushed x piece (Err failed) (with_sink_faults n y)
Pushed-passed x y piece failed n is beside =
    let P : MemoryState → Type 0 = λ z. Pushed x piece (Err failed) (with_sink_faults n z) in
    let Q : List ℕ → Type 0 = λ before. IsShownByPiece before piece 0 x.disk (passed x).disk in
    subst P (sym is) (record {
      shown = sym (append-nil x.sink.shown);
      moments = subst Q beside (IsShownByPiece-recorded piece 0 x.disk (passed x).disk (record {
        within = omega arith;
        past = refl;
        now = ap (λ (l : List ℕ). record x.disk.now { beside = l }) (sym (append-nil x.disk.now.beside));
      }));
    })

pub Pushed-stayed : (x y : MemoryState) (piece : List ℕ) (failed : Failed) (n : ℕ) → y ≡ x → x.disk.now.beside ≡ x.sink.shown
    → Pushed x piece (Err failed) (with_sink_faults n y)
Pushed-stayed x y piece failed n is beside =
    let P : MemoryState → Type 0 = λ z. Pushed x piece (Err failed) (with_sink_faults n z) in
    let Q : List ℕ → Type 0 = λ before. IsShownByPiece before piece 0 x.disk x.disk in
    subst P (sym is) (record {
      shown = sym (append-nil x.sink.shown);
      moments = subst Q beside (IsShownByPiece-starved piece x.disk);
    })

pub OnlySink-showed : (x y : MemoryState) (piece : List ℕ) (n : ℕ) → y ≡ showed piece x → x.disk.now.beside ≡ x.sink.shown
    → y.sink.faults ≤ n → OnlySink x (with_sink_faults n y)
OnlySink-showed x y piece n is beside risen =
    let same = ap (λ z. z.sink.faults) is in
    OnlySink-pushed x (with_sink_faults n y) piece (Ok (length piece)) (Pushed-showed x y piece n is beside) (ap (λ z. z.source) is)
    (let P : MemoryState → Type 0 = λ z. IsSameBeside x.disk z.disk in subst P (sym is) (record { same = refl; stable = refl; pending = refl }))
    (ap (λ z. z.has_lost) is) (omega arith)

pub OnlySink-passed : (x y : MemoryState) (n : ℕ) → y ≡ passed x → x.disk.now.beside ≡ x.sink.shown → y.sink.faults ≤ n
    → OnlySink x (with_sink_faults n y)
OnlySink-passed x y n is beside risen =
    let same = ap (λ z. z.sink.faults) is in
    OnlySink-pushed x (with_sink_faults n y) [] (Err (record {})) (Pushed-passed x y [] (record {}) n is beside) (ap (λ z. z.source) is)
    (let P : MemoryState → Type 0 = λ z. IsSameBeside x.disk z.disk in subst P (sym is) (record { same = refl; stable = refl; pending = refl }))
    (ap (λ z. z.has_lost) is) (omega arith)

pub OnlySink-stayed : (x y : MemoryState) (n : ℕ) → y ≡ x → x.disk.now.beside ≡ x.sink.shown → y.sink.faults ≤ n
    → OnlySink x (with_sink_faults n y)
OnlySink-stayed x y n is beside risen =
    let same = ap (λ z. z.sink.faults) is in
    OnlySink-pushed x (with_sink_faults n y) [] (Err (record {})) (Pushed-stayed x y [] (record {}) n is beside) (ap (λ z. z.source) is)
    (let P : MemoryState → Type 0 = λ z. IsSameBeside x.disk z.disk in subst P (sym is) (record { same = refl; stable = refl; pending = refl }))
    (ap (λ z. z.has_lost) is) (omega arith)
