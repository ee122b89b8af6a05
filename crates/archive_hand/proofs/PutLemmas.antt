-- A plan is put down: its sublists are written and made durable, and then its entry. What each image left stands for by what reads give.
use Rattle.std.proofs.Common.{◌≡◌, ◌⊎◌, ℕ, ◌-◌, List, [], ◌∷◌, ◌++◌, length, map, All, Result, Ok, Err, OnErr, IsErrAnd, inl, inr, refl, ap, sym, subst, ◌∙◌}
use Rattle.std.specs.List.{AllZip}
use Rattle.std.proofs.lemmas.List.Elements.{All-nil, All-cons, All-head, All-tail, All-weaker}
use Rattle.machine_model.specs.Areas.{Bytes}
use Rattle.machine_model.specs.Images.{MayLeave}
use Rattle.machine_model.specs.States.{DiskState, moment}
use Rattle.machine_model.specs.declared.range.Range.{Range}
use Rattle.machine_model.proofs.MomentLemmas.{goes_on_joins, joined, allowed_left}
use Rattle.base_types.specs.declared.extent.Extent.{Extent}
use Rattle.journal_gates.specs.Crash.{Appends, KeepsPages}
use Rattle.journal_gates.specs.InStep.{IsInStep}
use Rattle.journal_gates.specs.Spelled.{Spells}
use Rattle.journal_gates.proofs.InStepLemmas.{step_spells}
use Rattle.pages_area.specs.Crash.{ChangesOnly}
use Rattle.pages_area.specs.Live.{IsInside}
use Rattle.pages_area.specs.Ranges.{SameOutside, range_of}
use Rattle.pages_area.specs.Wrote.{HoldsPiece, Piece, Stored, extents_of, ranges_of}
use Rattle.pages_area.proofs.StayLemmas.{apart_parts}
use Rattle.journal_entries.specs.declared.entry.Entry.TheVariants.{Planned}
use Rattle.journal_entries.specs.declared.place.Place.{Place}
use Rattle.journal_entries.specs.declared.plan.PlanEntry.{PlanEntry}
use Rattle.pages_sublists.specs.Preparing.{IsFor, PreparedState, extents, pieces, pieces_of}
use Rattle.pages_sublists.specs.Segments.{seconds}
use Rattle.pages_sublists.proofs.HoldLemmas.{hold_sublists}
use Rattle.model_archive.specs.Histories.{History, end_of}
use Rattle.model_archive.specs.Holding.{HoldsPlan}
use Rattle.model_archive.specs.Plans.{live_extents, live_plans}
use Rattle.model_archive.specs.Stands.{bodies_of}
use Rattle.model_archive.specs.declared.stored.StoredPlan.{StoredPlan}
use Rattle.model_archive.proofs.HoldLemmas.{apart_more, piece_extents}
use Rattle.model_archive.proofs.LiveLemmas.{later_push, list_later, live_plans-push}
use Rattle.archive_plans.specs.Shelves.{extents_all}
use Rattle.archive_hand.specs.Changing.{KeepsBy, LeadsBy}
use Rattle.archive_hand.specs.States.{ArchiveState, AreInStepBy, with_entry}
use Rattle.archive_hand.specs.Stored.{Store, HasSame, StandsBy, Stocks}
use Rattle.archive_hand.specs.Storing.{IsBegun, IsOutside, IsPutDown, IsStorable}
use Rattle.archive_hand.proofs.AddLemmas.{bodies_more, step_stays}
use Rattle.archive_hand.proofs.LiveLemmas.{all_inside_with}
use Rattle.archive_hand.proofs.ByReadsLemmas.{all_same, same_as, same_outside, one_entry}

-- what is known where a call failed
pub on_err : {T E : Type 0} (X : Type 0) (r : Result T E) (P : E → Type 0) → IsErrAnd r P → X → OnErr r X
on_err X (Ok x) P never is = absurd never
on_err X (Err e) P failed is = is

-- the writes alone
pub begun : (bodies : List (List ℕ)) (ps : List Piece) (end : ℕ) (old mid : DiskState) → IsInStep old end bodies → ChangesOnly (ranges_of ps) old mid → IsBegun bodies ps old mid
begun bodies ps end old mid step changes = record {
  goes_on = changes.goes_on;
  images = λ image beside left.
      let was = changes.images image beside left in
      (subst (λ (l : List ℕ). Spells l bodies) (sym was.2) (step_spells old end bodies step was.0 was.1), (was.0, was.1, was.3), was.4);
}

-- the writes, made durable, and the entry
pub put_down : (bodies : List (List ℕ)) (frame : List ℕ) (ps : List Piece) (end : ℕ) (old mid new : DiskState) → IsInStep old end bodies → MayLeave old.now old.holds → ChangesOnly (ranges_of ps) old mid → mid.now.beside ≡ old.now.beside
    → Stored ps old mid → All (IsInside (length mid.holds.pages)) (extents_of ps) → (IsInStep mid end bodies → Appends bodies frame mid new) → KeepsPages mid new → IsPutDown bodies frame ps mid.holds.pages old new
put_down bodies frame ps end old mid new step allowed changes same stored inside appends pages =
    let first = begun bodies ps end old mid step changes in
    let then = appends (step_stays (ranges_of ps) old mid end bodies changes step) in
    record {
      goes_on = goes_on_joins first.goes_on then.goes_on;
      elsewhere = stored.wrote.elsewhere;
      inside = inside;
      each = stored.wrote.each;
      images = joined (λ image beside. ((Spells image.journal bodies × IsOutside old (ranges_of ps) image.pages) ⊎ (Spells image.journal (bodies ++ frame ∷ []) × (image.pages ≡ mid.holds.pages))) × (beside ≡ old.now.beside)) first.goes_on
          (λ image beside left. let was = first.images image beside left in (inl (was.0, was.1), was.2)) then.goes_on
          (λ image beside left.
          let was = then.images image beside left in
          let on = pages.images image beside left in
          let is : image.pages ≡ mid.holds.pages = on.2 ∙ ap (λ (b : Bytes). b.pages) (stored.only on.0 on.1) in (
            elim was.0 [
              | inl spelled ↦ inl (spelled, (old.holds, allowed, subst (λ (l : List ℕ). SameOutside (ranges_of ps) old.holds.pages l) (sym is) stored.wrote.elsewhere))
              | inr spelled ↦ inr (spelled, is)
            ],
            was.1 ∙ same,
          ));
    }

-- and then each image has the pages that reads give
pub one_pages : (ps : List Piece) (old mid new : DiskState) → Stored ps old mid → KeepsPages mid new → new.holds.pages ≡ mid.holds.pages → (image : Bytes) → MayLeave new.now image → image.pages ≡ new.holds.pages
one_pages ps old mid new stored pages held image allowed =
    let was = pages.images image new.now.beside (allowed_left new (moment mid) image allowed) in
    was.2 ∙ ap (λ (b : Bytes). b.pages) (stored.only was.0 was.1) ∙ sym held

-- the places of a plan that was stored hold its sublists
plan_held : (h : History) (plan : PlanEntry) (prepared : PreparedState) (frame : List ℕ) (pages : List ℕ) → IsStorable h plan prepared frame → All (HoldsPiece pages) (pieces prepared) → HoldsPlan (h ++ Planned plan ∷ []) pages plan
plan_held h plan prepared frame pages ready each = record {
  list = ready.list;
  list_is = list_later h (h ++ Planned plan ∷ []) plan.word plan.horizon.seconds ready.list (later_push h (Planned plan) refl) ready.entry.planned.past ready.list_is;
  each = hold_sublists plan.layout ready.list (seconds plan.cuts) plan.horizon.seconds plan.places pages (rw (ready.places, ← ready.spelled) ready.each) (rw (ready.places, ← ready.spelled) each);
}

-- the live places with those of a plan more lie inside what these do
live_inside : (h : History) (plan : PlanEntry) (n : ℕ) → All (IsInside n) (live_extents h) → All (IsInside n) (extents plan.places) → All (IsInside n) (live_extents (h ++ Planned plan ∷ []))
live_inside h plan n was more =
    subst (λ (l : List StoredPlan). All (IsInside n) (extents_all l)) (sym (live_plans-push h (Planned plan))) (all_inside_with n (live_plans h) (record { gate = end_of h - 1; plan = plan }) was more)

-- what a plan that was put down leaves
pub record IsThere (s : Store) (plan : PlanEntry) (pages : List ℕ) (old new : DiskState) (b : ArchiveState) : Type 0 where
  pub stocks : Stocks s (with_entry s (Planned plan) pages b new)
  pub leads : LeadsBy s (with_entry s (Planned plan) pages b new) old new
  pub inside : All (IsInside (length pages)) (live_extents (s.history ++ Planned plan ∷ []))

-- other bytes only in the places of what was prepared are other bytes only in its extents
outside_of : (prepared : PreparedState) (was pages : List ℕ) → AllZip IsFor prepared.places prepared.spellings → SameOutside (ranges_of (pieces prepared)) was pages → SameOutside (map range_of (extents prepared.places)) was pages
outside_of prepared was pages each same = subst (λ (rs : List Range). SameOutside rs was pages) (ap (map range_of) (piece_extents prepared.places prepared.spellings each)) same

-- what is begun leaves what is stored
pub begun_by : (s : Store) (plan : PlanEntry) (prepared : PreparedState) (frame : List ℕ) (old : DiskState) (a : ArchiveState) (image : Bytes) → AreInStepBy old a s → IsStorable s.history plan prepared frame
    → Spells image.journal (bodies_of s.history) → IsOutside old (ranges_of (pieces prepared)) image.pages → StandsBy s image
begun_by s plan prepared frame old a image in_step ready spelled (was, allowed, same) = record {
  spelled = spelled;
  same = same_outside (extents prepared.places) (live_extents s.history) s.pages was.pages image.pages (apart_parts (extents prepared.places) (live_extents s.history) ready.apart).0
      (outside_of prepared was.pages image.pages ready.each same) (in_step.same was allowed);
}

pub begun_keeps : (s : Store) (plan : PlanEntry) (prepared : PreparedState) (frame : List ℕ) (old new : DiskState) (a : ArchiveState) → AreInStepBy old a s → IsStorable s.history plan prepared frame
    → IsBegun (bodies_of s.history) (pieces prepared) old new → KeepsBy s old new
begun_keeps s plan prepared frame old new a in_step ready begun = record {
  goes_on = begun.goes_on;
  images = λ image beside left. let was = begun.images image beside left in (begun_by s plan prepared frame old a image in_step ready was.0 was.1, was.2);
}

pub put_there : (s : Store) (plan : PlanEntry) (prepared : PreparedState) (frame : List ℕ) (pages : List ℕ) (old new : DiskState) (a b : ArchiveState) → AreInStepBy old a s → IsStorable s.history plan prepared frame
    → IsPutDown (bodies_of s.history) frame (pieces prepared) pages old new → IsThere s plan pages old new b
put_there s plan prepared frame pages old new a b in_step ready put =
    let live = live_extents s.history in
    let at = extents prepared.places in
    let apart = (apart_parts at live ready.apart).0 in
    let elsewhere = outside_of prepared old.holds.pages pages ready.each put.elsewhere in
    let base : All (HasSame s.pages old.holds.pages) live = same_as s.pages s.pages old.holds.pages live in_step.pages_are (all_same s.pages live in_step.live.0) in
    let kept = same_outside at live s.pages old.holds.pages pages apart elsewhere base in
    let placed : All (IsInside (length pages)) at = subst (λ (es : List Extent). All (IsInside (length pages)) es) (piece_extents prepared.places prepared.spellings ready.each) put.inside in
    let inside = live_inside s.history plan (length pages) (All-weaker (HasSame s.pages pages) (IsInside (length pages)) (λ e is. is.0) live kept) (rw ready.places placed) in
    record {
      stocks = record {
        same = kept;
        apart = apart_more s.history plan (rw ready.places ready.apart);
        held = λ other same. (
            let one = one_entry s.history (Planned plan) (Planned other) same in
            let is : plan ≡ other = cc in
            subst (λ (p : PlanEntry). HoldsPlan (s.history ++ Planned plan ∷ []) pages p) is (plan_held s.history plan prepared frame pages ready put.each)
            );
        asked = refl;
      };
      leads = record {
        goes_on = put.goes_on;
        images = λ image beside left.
            let was = put.images image beside left in (
              elim was.0 [
                | inl before ↦ inl (begun_by s plan prepared frame old a image in_step ready before.0 before.1)
                | inr after ↦ inr (record {
                  spelled = rw (← bodies_more s.history (Planned plan) frame ready.framed) after.0;
                  same = same_as pages pages image.pages (live_extents (s.history ++ Planned plan ∷ [])) after.1 (all_same pages (live_extents (s.history ++ Planned plan ∷ [])) inside);
                })
              ],
              was.1,
            );
      };
      inside = inside;
    }

-- places that lie inside pages, with the bytes that are for them
pub pieces_inside : (n : ℕ) (places : List Place) (all : List (List ℕ)) → All (λ (p : Place). IsInside n p.extent) places → All (IsInside n) (extents_of (pieces_of places all))
pieces_inside n [] all inside = All-nil (IsInside n)
pieces_inside n (p ∷ places) [] inside = All-nil (IsInside n)
pieces_inside n (p ∷ places) (bytes ∷ all) inside =
    let I : Place → Type 0 = λ q. IsInside n q.extent in
    All-cons (IsInside n) p.extent (extents_of (pieces_of places all)) (All-head I p places inside) (pieces_inside n places all (All-tail I p places inside))
