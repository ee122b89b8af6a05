-- One place more, and extents in another order.
use Rattle.std.proofs.Common.{◌≡◌, ◌⊎◌, ℕ, ◌+◌, ◌<◌, List, [], ◌∷◌, ◌++◌, length, take, drop, get_or, suc, add-one, inl, inr, refl, ap, sym, subst, ◌∙◌, arith, count_by, cond, Err, IsErrOf}
use Rattle.std.proofs.Math.Seq.{drop-cons}
use Rattle.std.proofs.lemmas.List.{map-append, take-append-drop, take_more}
use Rattle.std.proofs.lemmas.List.Sums.{sum_by-cons}
use Rattle.std.specs.List.{AllZip}
use Rattle.base_types.specs.declared.extent.Extent.{Extent}
use Rattle.journal_entries.specs.declared.place.Place.{Place}
use Rattle.pages_area.specs.Runs.{IsTaken, IsPageOf, IsFreeRun, IsLowestRun, pages_for}
use Rattle.pages_area.specs.Taken.{PagesState, HasTaken, AreApart, has_pages}
use Rattle.pages_area.specs.Placing.{ArePlaced, HaveNoRoom}
use Rattle.pages_area.proofs.StayLemmas.{taken_right}
use Rattle.pages_area.specs.declared.pages.TakeError.{TakeError}
use Rattle.pages_sublists.specs.Preparing.{IsFor, Adds, extents, sizes}

-- extents in front of others, the last of them first
pub with_placed : List Extent → List Extent → List Extent
with_placed taken [] = taken
with_placed taken (e ∷ es) = with_placed (e ∷ taken) es

placed-push : (taken es : List Extent) (e : Extent) → with_placed taken (es ++ e ∷ []) ≡ e ∷ with_placed taken es
unfolding with_placed
placed-push taken [] e = refl
placed-push taken (x ∷ es) e = placed-push (x ∷ taken) es e

placed_more : (taken : List Extent) (sizes : List ℕ) (es : List Extent) (b : ℕ) (e : Extent) → ArePlaced taken sizes es → e.bytes ≡ b
    → IsLowestRun (with_placed taken es) (pages_for b) e.first → ArePlaced taken (sizes ++ b ∷ []) (es ++ e ∷ [])
unfolding with_placed
placed_more taken [] [] b e placed size lowest = (size, lowest, tt)
placed_more taken (s ∷ sizes) (x ∷ es) b e placed size lowest = (placed.0, placed.1, placed_more (x ∷ taken) sizes es b e placed.2 size lowest)
placed_more taken [] (x ∷ es) b e placed size lowest = absurd placed
placed_more taken (s ∷ sizes) [] b e placed size lowest = absurd placed

-- one finds no room behind those that were placed
no_room : (taken : List Extent) (sizes : List ℕ) (es : List Extent) (b : ℕ) (rest : List ℕ) → ArePlaced taken sizes es
    → ((first : ℕ) → IsFreeRun (with_placed taken es) (pages_for b) first → ⊥) → HaveNoRoom taken (sizes ++ b ∷ rest)
unfolding with_placed
no_room taken [] [] b rest placed none = inl none
no_room taken (s ∷ sizes) (x ∷ es) b rest placed none = inr (x, placed.0, placed.1, no_room (x ∷ taken) sizes es b rest placed.2 none)
no_room taken [] (x ∷ es) b rest placed none = absurd placed
no_room taken (s ∷ sizes) [] b rest placed none = absurd placed

-- ---- one of the extents in front of the others

taken_back : (xs ys : List Extent) (e : Extent) (p : ℕ) → IsPageOf e p ⊎ IsTaken (xs ++ ys) p → IsTaken (xs ++ e ∷ ys) p
taken_back [] ys e p taken = taken
taken_back (x ∷ xs) ys e p (inl mine) = inr (taken_back xs ys e p (inl mine))
taken_back (x ∷ xs) ys e p (inr (inl is)) = inl is
taken_back (x ∷ xs) ys e p (inr (inr more)) = inr (taken_back xs ys e p (inr more))

taken_front : (xs ys : List Extent) (e : Extent) (p : ℕ) → IsTaken (xs ++ e ∷ ys) p → IsPageOf e p ⊎ IsTaken (xs ++ ys) p
taken_front [] ys e p taken = taken
taken_front (x ∷ xs) ys e p (inl is) = inr (inl is)
taken_front (x ∷ xs) ys e p (inr more) = elim (taken_front xs ys e p more) [ inl mine ↦ inl mine | inr other ↦ inr (inr other) ]

apart_front : (xs ys : List Extent) (e : Extent) → AreApart (xs ++ e ∷ ys) → AreApart (e ∷ (xs ++ ys))
apart_front [] ys e apart = apart
apart_front (x ∷ xs) ys e apart =
    let rest = apart_front xs ys e apart.1 in (
      (λ p mine taken. elim taken [ inl is ↦ apart.0 p is (taken_right xs (e ∷ ys) p (inl mine)) | inr more ↦ rest.0 p mine more ]),
      ((λ p is taken. apart.0 p is (taken_back xs ys e p (inr taken))), rest.1),
    )

count_front : (xs ys : List Extent) (e : Extent) → count_by has_pages (xs ++ e ∷ ys) ≡ count_by has_pages (e ∷ (xs ++ ys))
count_front [] ys e = refl
count_front (x ∷ xs) ys e =
    let one : Extent → ℕ = λ (y : Extent). cond (has_pages y) 1 0 in
    omega (arith, count_front xs ys e, sum_by-cons one x (xs ++ e ∷ ys), sum_by-cons one e (xs ++ ys), sum_by-cons one e (x ∷ (xs ++ ys)), sum_by-cons one x (xs ++ ys))

has_front : (store : PagesState) (xs ys : List Extent) (e : Extent) → HasTaken store (xs ++ e ∷ ys) → HasTaken store (e ∷ (xs ++ ys))
has_front store xs ys e has = record {
  apart = apart_front xs ys e has.apart;
  counted = sym (count_front xs ys e) ∙ has.counted;
  free_are = λ p. (
    (λ is. let was = (has.free_are p).0 is in (was.0, λ taken. was.1 (taken_back xs ys e p taken))),
    (λ free. (has.free_are p).1 (free.0, λ taken. free.1 (taken_front xs ys e p taken))),
  );
}

pub has_placed : (store : PagesState) (taken es : List Extent) → HasTaken store (with_placed taken es) → HasTaken store (es ++ taken)
unfolding with_placed
has_placed store taken [] has = has
has_placed store taken (e ∷ es) has = has_front store es taken e (has_placed store (e ∷ taken) es has)

-- ---- one place more

-- the lowest run of no pages is at page 0
pub lowest_none : (taken : List Extent) (bytes first : ℕ) → bytes ≡ 0 → IsLowestRun taken (pages_for bytes) first → first ≡ 0
lowest_none taken bytes first none lowest =
    let free : IsFreeRun taken (pages_for bytes) 0 = record { below = omega (arith, none); free = λ p from below is. omega (arith, below, none) } in
    omega (arith, lowest.lowest 0 free)

-- so far places for these bytes were added, each with the lowest run
pub record ArePlacedSoFar (old new : PagesState) (all : List (List ℕ)) (places : List Place) : Type 0 where
  pub each : AllZip IsFor places all
  pub placed : (taken : List Extent) → HasTaken old taken → ArePlaced taken (sizes all) (extents places)
  pub taken : (taken : List Extent) → HasTaken old taken → HasTaken new (with_placed taken (extents places))

pub none_so_far : (store : PagesState) → ArePlacedSoFar store store [] []
unfolding with_placed
none_so_far store = record { each = tt; placed = λ taken has. tt; taken = λ taken has. has }

pub zip-push : (places : List Place) (all : List (List ℕ)) (p : Place) (bytes : List ℕ) → AllZip IsFor places all → IsFor p bytes → AllZip IsFor (places ++ p ∷ []) (all ++ bytes ∷ [])
zip-push [] [] p bytes each is = (is, tt)
zip-push (q ∷ places) (b ∷ all) p bytes each is = (each.0, zip-push places all p bytes each.1 is)
zip-push [] (b ∷ all) p bytes each is = absurd each
zip-push (q ∷ places) [] p bytes each is = absurd each

pub extents-push : (places : List Place) (p : Place) → extents (places ++ p ∷ []) ≡ extents places ++ p.extent ∷ []
extents-push places p = map-append (λ (q : Place). q.extent) places (p ∷ [])

sizes-push : (all : List (List ℕ)) (bytes : List ℕ) → sizes (all ++ bytes ∷ []) ≡ sizes all ++ length bytes ∷ []
sizes-push all bytes = map-append (λ (b : List ℕ). length b) all (bytes ∷ [])

pub one_more : (old mid new : PagesState) (all more : List (List ℕ)) (bytes : List ℕ) (places after : List Place) → more ≡ all ++ bytes ∷ [] → (taken : List Extent) × HasTaken old taken
    → ArePlacedSoFar old mid all places → Adds bytes mid new places after → ArePlacedSoFar old new more after
one_more old mid new all more bytes places after is some so_far adds =
    let p : Place = adds.place in
    let lowest : (taken : List Extent) → HasTaken old taken → IsLowestRun (with_placed taken (extents places)) (pages_for (length bytes)) p.extent.first = λ taken has. adds.lowest (with_placed taken (extents places)) (so_far.taken taken has) in
    let this : IsFor p bytes = record {
      size = adds.size;
      digest = adds.digest;
      empty = λ none. lowest_none (with_placed some.0 (extents places)) (length bytes) p.extent.first (sym adds.size ∙ none) (lowest some.0 some.1);
    } in
    let behind : List Place = places ++ p ∷ [] in
    let P : List Place → Type 0 = λ ps. ArePlacedSoFar old new more ps in
    let Q : List (List ℕ) → Type 0 = λ bs. ArePlacedSoFar old new bs behind in
    subst P (sym adds.is) (subst Q (sym is) (record {
      each = zip-push places all p bytes so_far.each this;
      placed = λ taken has.
          let R : List ℕ → Type 0 = λ ns. ArePlaced taken ns (extents behind) in
          let S : List Extent → Type 0 = λ es. ArePlaced taken (sizes all ++ length bytes ∷ []) es in
          subst R (sym (sizes-push all bytes)) (subst S (sym (extents-push places p)) (placed_more taken (sizes all) (extents places) (length bytes) p.extent (so_far.placed taken has) adds.size (lowest taken has)));
      taken = λ taken has.
          let T : List Extent → Type 0 = λ es. HasTaken new es in
          subst T (sym (ap (λ (es : List Extent). with_placed taken es) (extents-push places p) ∙ placed-push taken (extents places) p.extent))
          (adds.taken (with_placed taken (extents places)) (so_far.taken taken has));
    }))

-- where one finds no room, all of them have none
pub has_no_room : (old mid : PagesState) (all front rest : List (List ℕ)) (bytes : List ℕ) (places : List Place) (taken : List Extent) → all ≡ front ++ bytes ∷ rest → ArePlacedSoFar old mid front places → HasTaken old taken
    → ((other : List Extent) → HasTaken mid other → (first : ℕ) → IsFreeRun other (pages_for (length bytes)) first → ⊥) → HaveNoRoom taken (sizes all)
has_no_room old mid all front rest bytes places taken is so_far has none =
    let N : List ℕ → Type 0 = λ ns. HaveNoRoom taken ns in
    subst N (sym (ap sizes is ∙ map-append (λ (b : List ℕ). length b) front (bytes ∷ rest)))
    (no_room taken (sizes front) (extents places) (length bytes) (sizes rest) (so_far.placed taken has) (none (with_placed taken (extents places)) (so_far.taken taken has)))

pub taken_so_far : (old new : PagesState) (all : List (List ℕ)) (places : List Place) (taken : List Extent) → ArePlacedSoFar old new all places → HasTaken old taken → HasTaken new (extents places ++ taken)
taken_so_far old new all places taken so_far has = has_placed new taken (extents places) (so_far.taken taken has)

-- the extents from a place on
pub extents_at : (places : List Place) (k : ℕ) (p : Place) → k < length places → p ≡ get_or places k p → extents (drop k places) ≡ p.extent ∷ extents (drop (k + 1) places)
extents_at places k p within is =
    ap extents (drop-cons places k p (omega (arith, within)) ∙ ap (λ (x : Place). x ∷ drop (suc k) places) (sym is)) ∙ ap (λ (i : ℕ). p.extent ∷ extents (drop i places)) (sym (add-one k))

-- the same where the last try changed nothing
pub held_still : (old mid new : PagesState) (all : List (List ℕ)) (places now : List Place) (taken : List Extent) → new ≡ mid → now ≡ places → ArePlacedSoFar old mid all places → HasTaken old taken
    → HasTaken new (extents now ++ taken)
held_still old mid new all places now taken pages same so_far has =
    let P : PagesState → Type 0 = λ s. HasTaken s (extents now ++ taken) in
    let Q : List Place → Type 0 = λ ps. HasTaken mid (extents ps ++ taken) in
    subst P (sym pages) (subst Q (sym same) (taken_so_far old mid all places taken so_far has))

pub split_at : (all : List (List ℕ)) (k : ℕ) (bytes : List ℕ) → k < length all → bytes ≡ get_or all k bytes → all ≡ take k all ++ bytes ∷ drop (suc k) all
split_at all k bytes within is =
    sym (take-append-drop k all) ∙ ap (λ (l : List (List ℕ)). take k all ++ l) (drop-cons all k bytes (omega (arith, within)) ∙ ap (λ (x : List ℕ). x ∷ drop (suc k) all) (sym is))

pub next_at : (all : List (List ℕ)) (k : ℕ) (bytes : List ℕ) → k < length all → bytes ≡ get_or all k bytes → take (k + 1) all ≡ take k all ++ bytes ∷ []
next_at all k bytes within is = take_more all k bytes within ∙ ap (λ (x : List ℕ). take k all ++ x ∷ []) (sym is)

pub retyped : {A B : Type 0} (e x : TakeError) → IsErrOf {T = A} (Err e) x → IsErrOf {T = B} (Err e) x
retyped e x h = let same : e ≡ x = cc in ap (λ (y : TakeError). Err y) same
