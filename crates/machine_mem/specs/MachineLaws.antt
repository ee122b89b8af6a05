-- The laws of the calls of one trait: over no call, and over calls in a row.
use Rattle.std.proofs.Common.{◌≡◌, ℕ, List, [], ◌++◌, refl, sym, ap, ◌∙◌, subst, arith, append_assoc}
use Rattle.std.proofs.lemmas.List.{append-nil}
use Rattle.machine_model.specs.Areas.{Both, Bytes, part}
use Rattle.machine_model.specs.States.{DiskState}
use Rattle.machine_model.specs.Images.{IsAllowed, MayLeave}
use Rattle.machine_model.specs.Pushes.{IsPrefix, IsSameBeside, OnlyShows}
use Rattle.machine_model.specs.declared.range.Range.{Range}
use Rattle.machine_model.proofs.MomentLemmas.{joined, goes_on_joins, goes_on_same, left_now}
use Rattle.machine_mem.specs.Machines.{MemoryState, OnlySource, OnlySink, OnlyDisk}

pub OnlySource-same : (x : MemoryState) → OnlySource x x
OnlySource-same x = record { sink = refl; disk = refl; lost = refl; faults = omega arith }

pub OnlySource-joins : (x y z : MemoryState) → OnlySource x y → OnlySource y z → OnlySource x z
OnlySource-joins x y z one two = record {
  sink = two.sink ∙ one.sink;
  disk = two.disk ∙ one.disk;
  lost = two.lost ∙ one.lost;
  faults = omega (arith, one.faults, two.faults);
}

pub OnlyDisk-same : (x : MemoryState) → OnlyDisk x x
OnlyDisk-same x = record {
  source = refl;
  sink = refl;
  faults = omega arith;
  reach = λ area. omega arith;
  read = λ area. omega arith;
  beside = refl;
  goes_on = goes_on_same x.disk;
  lost = λ was. was;
}

pub OnlyDisk-joins : (x y z : MemoryState) → OnlyDisk x y → OnlyDisk y z → OnlyDisk x z
OnlyDisk-joins x y z one two = record {
  source = two.source ∙ one.source;
  sink = two.sink ∙ one.sink;
  faults = omega (arith, one.faults, two.faults);
  reach = λ area. omega (arith, one.reach area, two.reach area);
  read = λ area. omega (arith, one.read area, two.read area);
  beside = two.beside ∙ one.beside;
  goes_on = goes_on_joins one.goes_on two.goes_on;
  lost = λ was. two.lost (one.lost was);
}

IsPrefix-joins : (a b c : List ℕ) → IsPrefix a b → IsPrefix b c → IsPrefix a c
IsPrefix-joins a b c one two = (one.0 ++ two.0, two.1 ∙ ap (λ (l : List ℕ). l ++ two.0) one.1 ∙ append_assoc a one.0 two.0)

pub OnlyShows-same : (d : DiskState) → (shown : List ℕ) → d.now.beside ≡ shown → OnlyShows d d shown shown
OnlyShows-same d shown is =
    let none : IsPrefix shown shown = ([], sym (append-nil shown)) in
    let Q : List ℕ → Type 0 = λ l. IsPrefix shown l × IsPrefix l shown in
    let beside = subst Q (sym is) (none, none) in
    record {
      goes_on = goes_on_same d;
      grows = none;
      since = left_now d (λ (image : Bytes) (beside : List ℕ). MayLeave d.now image × IsPrefix shown beside × IsPrefix beside shown)
          (λ image may. (may, beside.0, beside.1));
    }

still_allowed : (a b : DiskState) → IsSameBeside a b → (image : Bytes) → MayLeave b.now image → MayLeave a.now image
still_allowed a b same image may = λ area.
    let P : Bytes → Type 0 = λ stable. IsAllowed (part stable area) (part a.now.pending area) (part image area) in
    let Q : Both (List Range) → Type 0 = λ pending. IsAllowed (part b.now.stable area) (part pending area) (part image area) in
    subst P same.stable (subst Q same.pending (may area))

pub OnlyShows-joins : (a b c : DiskState) (s t u : List ℕ) → IsSameBeside a b → OnlyShows a b s t → OnlyShows b c t u → OnlyShows a c s u
OnlyShows-joins a b c s t u same one two = record {
  goes_on = goes_on_joins one.goes_on two.goes_on;
  grows = IsPrefix-joins s t u one.grows two.grows;
  since = joined (λ (image : Bytes) (beside : List ℕ). MayLeave a.now image × IsPrefix s beside × IsPrefix beside u)
      one.goes_on (λ image beside left. let h = one.since image beside left in (h.0, h.1, IsPrefix-joins beside t u h.2 two.grows))
      two.goes_on (λ image beside left.
      let h = two.since image beside left in
      (still_allowed a b same image h.0, IsPrefix-joins s t beside one.grows h.1, h.2));
}

pub IsSameBeside-joins : (a b c : DiskState) → IsSameBeside a b → IsSameBeside b c → IsSameBeside a c
IsSameBeside-joins a b c one two = record {
  same = ap (λ (d : DiskState). record d { past = a.past; now = a.now }) two.same ∙ one.same;
  stable = two.stable ∙ one.stable;
  pending = two.pending ∙ one.pending;
}

pub OnlySink-joins : (x y z : MemoryState) → OnlySink x y → OnlySink y z → OnlySink x z
OnlySink-joins x y z one two = record {
  source = two.source ∙ one.source;
  beside = IsSameBeside-joins x.disk y.disk z.disk one.beside two.beside;
  shows = OnlyShows-joins x.disk y.disk z.disk x.sink.shown y.sink.shown z.sink.shown one.beside one.shows two.shows;
  lost = two.lost ∙ one.lost;
  faults = omega (arith, one.faults, two.faults);
}

pub OnlySink-same : (x : MemoryState) → x.disk.now.beside ≡ x.sink.shown → OnlySink x x
OnlySink-same x is = record {
  source = refl;
  beside = record { same = refl; stable = refl; pending = refl };
  shows = OnlyShows-same x.disk x.sink.shown is;
  lost = refl;
  faults = omega arith;
}
