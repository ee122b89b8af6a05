-- Places that are given, one more of them or the first that fails.
use Rattle.std.proofs.Common.{◌≡◌, ℕ, ◌+◌, ◌<◌, List, [], ◌∷◌, ◌++◌, suc, length, take, get_or, refl, ap, sym, subst, ◌∙◌, append_assoc}
use Rattle.std.specs.List.{AllZip}
use Rattle.std.proofs.lemmas.List.{take_more}
use Rattle.base_types.specs.declared.extent.Extent.{Extent}
use Rattle.base_types.specs.declared.posting.Posting.{Posting}
use Rattle.journal_entries.specs.declared.place.Layout.{Layout}
use Rattle.journal_entries.specs.declared.place.Place.{Place}
use Rattle.pages_area.specs.Taken.{PagesState, HasTaken}
use Rattle.pages_area.proofs.OrderLemmas.{taken_swaps}
use Rattle.pages_sublists.specs.Preparing.{IsFor, extents, spellings}
use Rattle.pages_sublists.specs.PlacedAt.{IsNextPlace, IsPlaceFault, IsFaultOf}
use Rattle.pages_sublists.specs.declared.why.PlaceError.{PlaceError}
use Rattle.pages_sublists.specs.declared.why.PlaceError.TheVariants.{Differs, Taken, Memory}
use Rattle.pages_sublists.proofs.PlaceLemmas.{zip-push, extents-push, next_at}

next_place : (places : List Place) (k : ℕ) (place : Place) → k < length places → place ≡ get_or places k place → take (k + 1) places ≡ take k places ++ place ∷ []
next_place places k place within is = take_more places k place within ∙ ap (λ (x : Place). take k places ++ x ∷ []) (sym is)

-- one more passes
pub each_more : (places : List Place) (all : List (List ℕ)) (k : ℕ) (place : Place) (bytes : List ℕ) → k < length places → k < length all → place ≡ get_or places k place → bytes ≡ get_or all k bytes
    → AllZip IsFor (take k places) (take k all) → IsFor place bytes → AllZip IsFor (take (k + 1) places) (take (k + 1) all)
each_more places all k place bytes within inside place_is bytes_are each this =
    let P : List Place → Type 0 = λ ps. AllZip IsFor ps (take (k + 1) all) in
    let Q : List (List ℕ) → Type 0 = λ bs. AllZip IsFor (take k places ++ place ∷ []) bs in
    subst P (sym (next_place places k place within place_is)) (subst Q (sym (next_at all k bytes inside bytes_are)) (zip-push (take k places) (take k all) place bytes each this))

pub taken_more : (store : PagesState) (places : List Place) (k : ℕ) (place : Place) (taken : List Extent) → k < length places → place ≡ get_or places k place
    → HasTaken store (place.extent ∷ (extents (take k places) ++ taken)) → HasTaken store (extents (take (k + 1) places) ++ taken)
taken_more store places k place taken within is has =
    let P : List Extent → Type 0 = λ es. HasTaken store es in
    subst P (sym (ap (λ (ps : List Place). extents ps ++ taken) (next_place places k place within is) ∙ ap (λ (es : List Extent). es ++ taken) (extents-push (take k places) place)
    ∙ append_assoc (extents (take k places)) (place.extent ∷ []) taken)) (taken_swaps store [] (place.extent ∷ []) (extents (take k places)) taken has)

-- the first that fails
pub first_fault : (store : PagesState) (places : List Place) (all : List (List ℕ)) (k : ℕ) (place : Place) (bytes : List ℕ) (taken : List Extent) (error : PlaceError) → k < length places
    → place ≡ get_or places k place → bytes ≡ get_or all k bytes → AllZip IsFor (take k places) (take k all) → HasTaken store (extents (take k places) ++ taken)
    → IsFaultOf store k place bytes error → IsPlaceFault taken places all error
first_fault store places all k place bytes taken error within place_is bytes_are each has = go error
  where
    next : IsNextPlace taken places all k place bytes
    next = record { within = within; place_is = place_is; bytes_are = bytes_are; each = each; apart = has.apart }

    go : (error : PlaceError) → IsFaultOf store k place bytes error → IsPlaceFault taken places all error
    go (Differs j) fault =
        let P : ℕ → Type 0 = λ i. IsNextPlace taken places all i place bytes in
        (place, bytes, subst P (sym fault.0) next, fault.1)
    go (Taken j) fault =
        let P : ℕ → Type 0 = λ i. IsPlaceFault taken places all (Taken i) in
        let shared = fault.2 (extents (take k places) ++ taken) has in
        subst P (sym fault.0) (place, bytes, next, fault.1, shared.0, shared.1, shared.2)
    go Memory fault = tt

-- a sublist for each segment
pub as_many : (layout : Layout) (list : List Posting) (cuts : List ℕ) (h : ℕ) → length (spellings layout list cuts h) ≡ length cuts
as_many layout list [] h = refl
as_many layout list (f ∷ cuts) h = ap suc (as_many layout list cuts h)
