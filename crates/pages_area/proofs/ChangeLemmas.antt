-- How clauses on writes to Pages are made and joined.
use Rattle.std.proofs.Common.{◌≡◌, ◌⊎◌, ℕ, ◌*◌, List, [], ◌∷◌, ◌++◌, refl, inl, inr, ap, sym, subst, ◌∙◌, arith}
use Rattle.std.proofs.lemmas.List.{append-nil}
use Rattle.machine_model.specs.Areas.{Bytes, part}
use Rattle.machine_model.specs.States.{DiskState, moment}
use Rattle.machine_model.specs.Images.{AreBytes, IsUntouched, MayLeave, TornFrom}
use Rattle.machine_model.specs.Calls.{Writes, Syncs}
use Rattle.machine_model.specs.declared.area.Area.{Area}
use Rattle.machine_model.specs.declared.area.Area.TheVariants.{Journal, Pages}
use Rattle.machine_model.specs.declared.range.Range.{Range}
use Rattle.machine_model.proofs.MomentLemmas.{joined, goes_on_joins, goes_on_same, left_now, allowed_left}
use Rattle.machine_model.proofs.ImageLemmas.{torn_image}
use Rattle.base_types.specs.declared.extent.Extent.{Extent}
use Rattle.pages_area.specs.Ranges.{SameOutside, range_of}
use Rattle.pages_area.specs.Crash.{ChangesOnly}

WasElsewhere : List Range → DiskState → Bytes → List ℕ → Type 0
WasElsewhere ranges old image beside = (was : Bytes) × MayLeave old.now was
    × (image.journal ≡ was.journal) × SameOutside ranges was.pages image.pages × (beside ≡ old.now.beside)

pub same_outside : (ranges : List Range) (pages : List ℕ) → SameOutside ranges pages pages
same_outside ranges pages = record { no_shorter = omega arith; same = λ k inside untouched. refl }

untouched_left : (xs ys : List Range) (k : ℕ) → IsUntouched (xs ++ ys) k → IsUntouched xs k
untouched_left [] ys k untouched = tt
untouched_left (x ∷ xs) ys k untouched = (untouched.0, untouched_left xs ys k untouched.1)

untouched_right : (xs ys : List Range) (k : ℕ) → IsUntouched (xs ++ ys) k → IsUntouched ys k
untouched_right [] ys k untouched = untouched
untouched_right (x ∷ xs) ys k untouched = untouched_right xs ys k untouched.1

pub same_joins : (xs ys : List Range) (a b c : List ℕ) → SameOutside xs a b → SameOutside ys b c → SameOutside (xs ++ ys) a c
same_joins xs ys a b c one two = record {
  no_shorter = omega (arith, one.no_shorter, two.no_shorter);
  same = λ k inside untouched. two.same k (omega (arith, inside, one.no_shorter)) (untouched_right xs ys k untouched) ∙ one.same k inside (untouched_left xs ys k untouched);
}

-- no write
pub changes_nothing : (ranges : List Range) (d : DiskState) → ChangesOnly ranges d d
unfolding WasElsewhere
changes_nothing ranges d = record {
  goes_on = goes_on_same d;
  images = left_now d (WasElsewhere ranges d) (λ image allowed. (image, allowed, refl, same_outside ranges image.pages, refl));
}

torn_pages : (at n : ℕ) (a : DiskState) (image was : Bytes) → MayLeave a.now was → ((image ≡ was) ⊎ TornFrom Pages at n was image) → (beside : List ℕ) → beside ≡ a.now.beside
    → WasElsewhere (record { at = at; count = n } ∷ []) a image beside
unfolding WasElsewhere
torn_pages at n a image was allowed (inl equal) beside same =
    (was, allowed, ap (λ (i : Bytes). i.journal) equal, let P : Bytes → Type 0 = λ i. SameOutside (record { at = at; count = n } ∷ []) was.pages i.pages in subst P (sym equal) (same_outside _ was.pages), same)
torn_pages at n a image was allowed (inr torn) beside same = (
  was,
  allowed,
  torn.elsewhere Journal (λ other. cc),
  record { no_shorter = torn.here.no_shorter; same = λ k inside untouched. torn.here.untouched k inside untouched.0 },
  same,
)

-- a write to an extent that was tried
pub changes_written : (e : Extent) {at n : ℕ} {a b : DiskState} → at ≡ e.first * 4096 → n ≡ e.bytes → Writes Pages at n a b → ((area : Area) → AreBytes (part a.now.stable area)) → ChangesOnly (range_of e ∷ []) a b
unfolding WasElsewhere
changes_written e {at} {n} {a} {b} place count writes bytes = record {
  goes_on = writes.goes_on;
  images = λ image beside left.
      let now = writes.during image beside left in
      let torn = torn_image Pages at n a b writes bytes image now.0 in
      let same : record { at = at; count = n } ≡ range_of e = (λ i. record { at = place i; count = count i }) in
      subst (λ (r : Range). WasElsewhere (r ∷ []) a image beside) same (torn_pages at n a image torn.0 torn.1 torn.2 beside (now.1 ∙ writes.beside));
}

-- a sync that was tried
pub changes_synced : {a b : DiskState} → Syncs a b → ChangesOnly [] a b
unfolding WasElsewhere
changes_synced {a} {b} syncs = record {
  goes_on = syncs.goes_on;
  images = λ image beside left.
      let now = syncs.during image beside left in
      (image, now.0, refl, same_outside [] image.pages, now.1);
}

-- writes in a row
pub changes_join : (xs ys : List Range) {a b c : DiskState} → ChangesOnly xs a b → ChangesOnly ys b c → ChangesOnly (xs ++ ys) a c
unfolding WasElsewhere
changes_join xs ys {a} {b} {c} first second = record {
  goes_on = goes_on_joins first.goes_on second.goes_on;
  images = joined (WasElsewhere (xs ++ ys) a) first.goes_on
      (λ image beside left. let was = first.images image beside left in (was.0, was.1, was.2, same_joins xs ys was.0.pages image.pages image.pages was.3 (same_outside ys image.pages), was.4))
      second.goes_on (λ image beside left.
      let later = second.images image beside left in
      let early = first.images later.0 b.now.beside (allowed_left b (moment a) later.0 later.1) in
      (early.0, early.1, later.2 ∙ early.2, same_joins xs ys early.0.pages later.0.pages image.pages early.3 later.3, later.4 ∙ early.4));
}

-- what changes only some ranges changes only those and more
pub changes_more : (xs ys : List Range) {a b : DiskState} → ChangesOnly xs a b → ChangesOnly (xs ++ ys) a b
changes_more xs ys {a} {b} changes = changes_join xs ys changes (changes_nothing ys b)

-- a sync behind writes
pub changes_then_sync : (xs : List Range) {a b c : DiskState} → ChangesOnly xs a b → Syncs b c → ChangesOnly xs a c
changes_then_sync xs {a} {b} {c} changes syncs =
    let P : List Range → Type 0 = λ rs. ChangesOnly rs a c in
    subst P (append-nil xs) (changes_join xs [] changes (changes_synced syncs))
