-- One piece more that is written.
use Rattle.std.proofs.Common.{◌≡◌, Bool, true, false, ℕ, ◌+◌, ◌*◌, ◌<◌, ◌≤◌, ◌==◌, if◌then◌else◌, max, List, [], ◌∷◌, ◌++◌, length, drop, get_or, zero, suc, add-one, All, Result, OnOk, refl, ap, sym, subst, ◌∙◌, arith}
use Rattle.std.proofs.Math.Seq.{drop-cons}
use Rattle.std.proofs.lemmas.List.{map-append, append-nil, append_assoc, drop_all}
use Rattle.std.proofs.lemmas.List.Elements.{All-nil, All-cons, All-head, All-tail, All-append}
use Rattle.std.proofs.lemmas.Result.{on_ok_weaker}
use Rattle.std.specs.List.{AllZip}
use Rattle.machine_model.specs.States.{DiskState}
use Rattle.machine_model.specs.Calls.{Syncs, IsSynced}
use Rattle.machine_model.specs.declared.range.Range.{Range}
use Rattle.base_types.specs.declared.extent.Extent.{Extent}
use Rattle.journal_entries.specs.declared.place.Place.{Place}
use Rattle.pages_area.specs.Crash.{ChangesOnly}
use Rattle.pages_area.specs.Live.{IsInside}
use Rattle.pages_area.specs.Runs.{IsTaken}
use Rattle.pages_area.specs.Ranges.{range_of}
use Rattle.pages_area.specs.Taken.{PagesState, HasTaken, AreApart}
use Rattle.pages_area.specs.Wrote.{Piece, Wrote, Stored, extents_of, ranges_of, reach_with}
use Rattle.pages_area.proofs.ChangeLemmas.{changes_nothing, changes_join, changes_more}
use Rattle.pages_area.proofs.StayLemmas.{apart_left}
use Rattle.pages_area.proofs.WroteLemmas.{wrote_nothing, wrote_join, ranges_join, stored_synced}
use Rattle.pages_area.specs.Caches.{Kept, StandsFor}
use Rattle.pages_area.proofs.CacheLawLemmas.{writes-stand}
use Rattle.pages_sublists.specs.Preparing.{IsFor, extents, pieces_of}

abbrev pub pieces_from : List Place → List (List ℕ) → ℕ → List Piece
pieces_from places all k = pieces_of (drop k places) (drop k all)

-- So many pieces were written: done, before those that are left.
pub record AreWritten (tells : Type 0) (old new : DiskState) (left all : List Piece) : Type 0 where
  pub done : List Piece
  pub is : done ++ left ≡ all
  pub images : tells → ChangesOnly (ranges_of done) old new
  pub wrote : tells → Wrote done old.holds new.holds
  pub inside : All (λ (piece : Piece). IsInside new.reach.pages piece.extent) done

pub written_none : (tells : Type 0) (old : DiskState) (all : List Piece) → AreWritten tells old old all all
written_none tells old all = record {
  done = [];
  is = refl;
  images = λ told. changes_nothing [] old;
  wrote = λ told. wrote_nothing old.holds;
  inside = All-nil (λ (piece : Piece). IsInside old.reach.pages piece.extent);
}

-- the places and the bytes are as many, and each is for the other
pub as_many : (places : List Place) (all : List (List ℕ)) → AllZip IsFor places all → length all ≡ length places
as_many [] [] each = refl
as_many [] (b ∷ all) each = absurd each
as_many (p ∷ places) [] each = absurd each
as_many (p ∷ places) (b ∷ all) each = omega (arith, as_many places all each.1)

-- place k and spelling k, as they are indexed, are for one another
pub for_at : (places : List Place) (all : List (List ℕ)) (k : ℕ) (x : Place) (at bytes : List ℕ) → AllZip IsFor places all → k < length places → at ≡ get_or all k at → bytes ≡ at → IsFor (get_or places k x) bytes
for_at [] all k x at bytes each within same seen = absurd (omega (arith, within))
for_at (q ∷ places) [] k x at bytes each within same seen = absurd each
for_at (q ∷ places) (b ∷ all) zero x at bytes each within same seen = subst (λ (y : List ℕ). IsFor q y) (sym (seen ∙ same)) each.0
for_at (q ∷ places) (b ∷ all) (suc k) x at bytes each within same seen = for_at places all k x at bytes each.1 (omega (arith, within)) same seen

-- and they are the piece that comes next
pub pieces_at : (places : List Place) (all : List (List ℕ)) (k : ℕ) (x : Place) (at bytes : List ℕ) → AllZip IsFor places all → k < length places → at ≡ get_or all k at → bytes ≡ at
    → pieces_from places all k ≡ record { extent = (get_or places k x).extent; bytes = bytes } ∷ pieces_from places all (k + 1)
pieces_at places all k x at bytes each one same seen =
    let p = get_or places k x in
    let behind : drop k all ≡ bytes ∷ drop (suc k) all = drop-cons all k at (omega (arith, one, as_many places all each)) ∙ ap (λ (y : List ℕ). y ∷ drop (suc k) all) (sym (seen ∙ same)) in
    ap (λ (ps : List Place). pieces_of ps (drop k all)) (drop-cons places k x (omega (arith, one))) ∙ ap (λ (bs : List (List ℕ)). pieces_of (p ∷ drop (suc k) places) bs) behind
    ∙ ap (λ (i : ℕ). record { extent = p.extent; bytes = bytes } ∷ pieces_of (drop i places) (drop i all)) (sym (add-one k))

inside_longer : (a b : ℕ) (pieces : List Piece) → a ≤ b → All (λ (piece : Piece). IsInside a piece.extent) pieces → All (λ (piece : Piece). IsInside b piece.extent) pieces
inside_longer a b [] longer each = All-nil (λ (piece : Piece). IsInside b piece.extent)
inside_longer a b (x ∷ pieces) longer each =
    All-cons (λ (piece : Piece). IsInside b piece.extent) x pieces (omega (arith, longer, All-head (λ (piece : Piece). IsInside a piece.extent) x pieces each))
    (inside_longer a b pieces longer (All-tail (λ (piece : Piece). IsInside a piece.extent) x pieces each))

-- the reach behind a good write is no shorter, and the extent lies inside
reached : (e : Extent) (old new : ℕ) → (e.bytes ≡ 0 → e.first ≡ 0) → new ≡ reach_with e old → (old ≤ new) × IsInside new e
reached e old new empty is = cases (e.bytes == 0) refl
  where
    cases : (b : Bool) → (e.bytes == 0) ≡ b → (old ≤ new) × IsInside new e
    cases true null =
        let none : e.bytes ≡ 0 = grind (arith, null) in
        let same : new ≡ old = is ∙ ap (λ (t : Bool). if t then old else max old (e.first * 4096 + e.bytes)) null in
        (omega (arith, same), omega (arith, none, empty none))
    cases false some =
        let more : new ≡ max old (e.first * 4096 + e.bytes) = is ∙ ap (λ (t : Bool). if t then old else max old (e.first * 4096 + e.bytes)) some in
        (omega (arith, more), omega (arith, more))

pub written_more : (tells : Type 0) (old mid new : DiskState) (left rest all : List Piece) (piece : Piece) → AreApart (extents_of all) → (piece.extent.bytes ≡ 0 → piece.extent.first ≡ 0)
    → left ≡ piece ∷ rest → new.reach.pages ≡ reach_with piece.extent mid.reach.pages → (tells → ChangesOnly (range_of piece.extent ∷ []) mid new) → (tells → Wrote (piece ∷ []) mid.holds new.holds)
    → AreWritten tells old mid left all → AreWritten tells old new rest all
written_more tells old mid new left rest all piece apart empty next reach changes wrote so_far =
    let I : ℕ → Piece → Type 0 = λ n q. IsInside n q.extent in
    let grown = reached piece.extent mid.reach.pages new.reach.pages empty reach in
    let is : (so_far.done ++ piece ∷ []) ++ rest ≡ all = append_assoc so_far.done (piece ∷ []) rest ∙ ap (λ (l : List Piece). so_far.done ++ l) (sym next) ∙ so_far.is in
    let A : List Extent → Type 0 = λ es. AreApart es in
    let first : AreApart (extents_of (so_far.done ++ piece ∷ [])) = apart_left (extents_of (so_far.done ++ piece ∷ [])) (extents_of rest)
    (subst A (ap extents_of (sym is) ∙ map-append (λ (q : Piece). q.extent) (so_far.done ++ piece ∷ []) rest) apart) in
    let R : List Range → Type 0 = λ rs. ChangesOnly rs old new in
    record {
      done = so_far.done ++ piece ∷ [];
      is = is;
      images = λ told. subst R (sym (ranges_join so_far.done (piece ∷ []))) (changes_join (ranges_of so_far.done) (ranges_of (piece ∷ [])) (so_far.images told) (changes told));
      wrote = λ told. wrote_join so_far.done (piece ∷ []) old.holds mid.holds new.holds first (so_far.wrote told) (wrote told);
      inside = All-append (I new.reach.pages) so_far.done (piece ∷ []) (inside_longer mid.reach.pages new.reach.pages so_far.done grown.0 so_far.inside)
          (All-cons (I new.reach.pages) piece [] grown.1 (All-nil (I new.reach.pages)));
    }

-- those that were written change only what all may
pub changed_so_far : (tells : Type 0) (old new : DiskState) (left all : List Piece) → AreWritten tells old new left all → tells → ChangesOnly (ranges_of all) old new
changed_so_far tells old new left all so_far told =
    let R : List Range → Type 0 = λ rs. ChangesOnly rs old new in
    let P : List Piece → Type 0 = λ ps. ChangesOnly (ranges_of ps) old new in
    subst P so_far.is (subst R (sym (ranges_join so_far.done left)) (changes_more (ranges_of so_far.done) (ranges_of left) (so_far.images told)))

-- and so does one more, whatever came of it
pub changed_more : (tells : Type 0) (old mid new : DiskState) (left rest all : List Piece) (piece : Piece) → left ≡ piece ∷ rest → (tells → ChangesOnly (range_of piece.extent ∷ []) mid new)
    → AreWritten tells old mid left all → tells → ChangesOnly (ranges_of all) old new
changed_more tells old mid new left rest all piece next changes so_far told =
    let R : List Range → Type 0 = λ rs. ChangesOnly rs old new in
    let P : List Piece → Type 0 = λ ps. ChangesOnly (ranges_of ps) old new in
    let is : (so_far.done ++ piece ∷ []) ++ rest ≡ all = append_assoc so_far.done (piece ∷ []) rest ∙ ap (λ (l : List Piece). so_far.done ++ l) (sym next) ∙ so_far.is in
    subst P is (subst R (sym (ranges_join (so_far.done ++ piece ∷ []) rest)) (changes_more (ranges_of (so_far.done ++ piece ∷ [])) (ranges_of rest)
    (subst R (sym (ranges_join so_far.done (piece ∷ []))) (changes_join (ranges_of so_far.done) (ranges_of (piece ∷ [])) (so_far.images told) (changes told)))))

-- all were written, and a sync came behind
all_done : (tells : Type 0) (old new : DiskState) (left all : List Piece) → left ≡ [] → (so_far : AreWritten tells old new left all) → so_far.done ≡ all
all_done tells old new left all none so_far = sym (append-nil so_far.done) ∙ ap (λ (l : List Piece). so_far.done ++ l) (sym none) ∙ so_far.is

pub all_stored : (tells : Type 0) (old mid new : DiskState) (left all : List Piece) → left ≡ [] → Syncs mid new → IsSynced mid new → AreWritten tells old mid left all → tells → Stored all old new
all_stored tells old mid new left all none syncs synced so_far told =
    let W : List Piece → Type 0 = λ ps. Wrote ps old.holds mid.holds in
    stored_synced all old mid new (subst W (all_done tells old mid left all none so_far) (so_far.wrote told)) syncs synced

inside_places : (n : ℕ) (places : List Place) (all : List (List ℕ)) → AllZip IsFor places all → All (λ (piece : Piece). IsInside n piece.extent) (pieces_of places all) → All (λ (p : Place). IsInside n p.extent) places
inside_places n [] all each inside = All-nil (λ (p : Place). IsInside n p.extent)
inside_places n (p ∷ places) [] each inside = absurd each
inside_places n (p ∷ places) (b ∷ all) each inside =
    let I : Piece → Type 0 = λ piece. IsInside n piece.extent in
    let one : Piece = record { extent = p.extent; bytes = b } in
    All-cons (λ (q : Place). IsInside n q.extent) p places (All-head I one (pieces_of places all) inside) (inside_places n places all each.1 (All-tail I one (pieces_of places all) inside))

pub all_inside : (tells : Type 0) (old mid : DiskState) (n : ℕ) (left : List Piece) (places : List Place) (all : List (List ℕ)) → left ≡ [] → n ≡ mid.reach.pages → AllZip IsFor places all
    → AreWritten tells old mid left (pieces_of places all) → All (λ (p : Place). IsInside n p.extent) places
all_inside tells old mid n left places all none reach each so_far =
    let P : List Piece → Type 0 = λ ps. All (λ (piece : Piece). IsInside mid.reach.pages piece.extent) ps in
    let N : ℕ → Type 0 = λ x. All (λ (p : Place). IsInside x p.extent) places in
    subst N (sym reach) (inside_places mid.reach.pages places all each (subst P (all_done tells old mid left (pieces_of places all) none so_far) so_far.inside))

pub pieces_end : (places : List Place) (all : List (List ℕ)) (k : ℕ) → length places ≤ k → pieces_from places all k ≡ []
pieces_end places all k ends = none (drop k places) (drop k all) (drop_all k places ends)
  where
    none : (ps : List Place) (bs : List (List ℕ)) → ps ≡ [] → pieces_of ps bs ≡ []
    none [] bs is = refl
    none (p ∷ ps) bs is = absurd (omega (arith, ap (λ (l : List Place). length l) is))

-- pieces lie where places do
pub extents_same : (places : List Place) (all : List (List ℕ)) → AllZip IsFor places all → extents_of (pieces_of places all) ≡ extents places
extents_same [] all each = refl
extents_same (p ∷ places) [] each = absurd each
extents_same (p ∷ places) (b ∷ all) each = ap (λ (es : List Extent). p.extent ∷ es) (extents_same places all each.1)

pub pieces_apart : (store : PagesState) (places : List Place) (all : List (List ℕ)) (live : List Extent) → AllZip IsFor places all → HasTaken store (extents places ++ live) → AreApart (extents_of (pieces_of places all))
pieces_apart store places all live each has =
    let A : List Extent → Type 0 = λ es. AreApart es in
    subst A (sym (extents_same places all each)) (apart_left (extents places) live has.apart)

-- pages that are kept and aren't among the places stand as they did
pub stands_still : {T E : Type 0} (result : Result T E) (cache : List Kept) (places : List Place) (all : List (List ℕ)) (old new : DiskState) → AllZip IsFor places all
    → All (λ (k : Kept). IsTaken (extents places) k.page → ⊥) cache → OnOk result (Stored (pieces_of places all) old new) → StandsFor cache old.holds.pages → OnOk result (StandsFor cache new.holds.pages)
stands_still result cache places all old new each unkept stored stands =
    let U : List Extent → Type 0 = λ es. All (λ (k : Kept). IsTaken es k.page → ⊥) cache in
    let apart : U (extents_of (pieces_of places all)) = subst U (sym (extents_same places all each)) unkept in
    on_ok_weaker result (λ (s : Stored (pieces_of places all) old new). writes-stand cache (extents_of (pieces_of places all)) old.holds.pages new.holds.pages apart s.wrote.elsewhere stands) stored
