-- What reads give after good writes.
use Rattle.std.proofs.Common.{◌≡◌, ◌⊎◌, ℕ, ◌+◌, ◌*◌, ◌<◌, ◌≤◌, max, List, [], ◌∷◌, ◌++◌, length, drop, slice_index, map, All, inl, inr, refl, ap, sym, subst, ◌∙◌, arith, length-append, length-drop}
use Rattle.std.proofs.lemmas.List.{length-take, length-replicate, get_or-take, get_or-drop, ext_get_or, places, map-append}
use Rattle.std.proofs.lemmas.List.Elements.{All-nil, All-cons, All-head, All-tail, All-append}
use Rattle.machine_model.specs.Areas.{Bytes, replaced}
use Rattle.machine_model.specs.States.{DiskState}
use Rattle.machine_model.specs.Images.{Only}
use Rattle.machine_model.specs.Calls.{written, Syncs, IsSynced}
use Rattle.machine_model.proofs.ImageLemmas.{only_synced}
use Rattle.machine_model.specs.declared.area.Area.TheVariants.{Pages}
use Rattle.machine_model.specs.declared.range.Range.{Range}
use Rattle.base_types.specs.declared.extent.Extent.{Extent}
use Rattle.pages_area.specs.Ranges.{SameOutside, range_of, bytes_in}
use Rattle.pages_area.specs.Taken.{AreApart}
use Rattle.pages_area.specs.Wrote.{Piece, HoldsPiece, Wrote, Stored, extents_of, ranges_of}
use Rattle.pages_area.proofs.ChangeLemmas.{same_joins, same_outside}
use Rattle.pages_area.proofs.StayLemmas.{AreApartFrom, bytes_stay, apart_parts}

length-written : (at : ℕ) (bytes old : List ℕ) → length (written at bytes old) ≡ max (length old) (at + length bytes)
length-written at bytes old = simp (length-append, length-take, length-drop, length-replicate) (omega arith)

-- the bytes outside the range stay
get_or-written : (at : ℕ) (bytes old : List ℕ) (k : ℕ) → k < length old → (k < at) ⊎ (at + length bytes ≤ k)
    → slice_index (written at bytes old) k ≡ slice_index old k
get_or-written at bytes old k within out = grind (arith, places)

-- the bytes written stand in the range
get_or-written_in : (at : ℕ) (bytes old : List ℕ) (k : ℕ) → k < length bytes → slice_index (written at bytes old) (at + k) ≡ slice_index bytes k
get_or-written_in at bytes old k within = grind (arith, places)

written_in : (e : Extent) (bytes old : List ℕ) → length bytes ≡ e.bytes → bytes_in e (written (e.first * 4096) bytes old) ≡ bytes
written_in e bytes old long =
    let at : ℕ = e.first * 4096 in
    let new : List ℕ = written at bytes old in
    let one : length (bytes_in e new) ≡ length bytes = omega (arith, length-take e.bytes (drop at new), length-drop at new, length-written at bytes old, long) in
    ext_get_or 0 (bytes_in e new) bytes one (λ k within.
    get_or-take e.bytes (drop at new) k 0 (omega (arith, within, one, long)) ∙ get_or-drop at new k 0 ∙ get_or-written_in at bytes old k (omega (arith, within, one)))

written_outside : (e : Extent) (bytes old : List ℕ) → length bytes ≡ e.bytes → SameOutside (range_of e ∷ []) old (written (e.first * 4096) bytes old)
written_outside e bytes old long = record {
  no_shorter = omega (arith, length-written (e.first * 4096) bytes old);
  same = λ k inside untouched. get_or-written (e.first * 4096) bytes old k inside (elim untouched.0 [ inl before ↦ inl before | inr behind ↦ inr (omega (arith, behind, long)) ]);
}

-- one good write
pub written_piece : (piece : Piece) (old new : Bytes) (at : ℕ) → length piece.bytes ≡ piece.extent.bytes → at ≡ piece.extent.first * 4096 → new ≡ replaced old Pages (written at piece.bytes old.pages) → Wrote (piece ∷ []) old new
written_piece piece old new at long place is =
    let start : ℕ = piece.extent.first * 4096 in
    let W : ℕ → Type 0 = λ n. Wrote (piece ∷ []) old (replaced old Pages (written n piece.bytes old.pages)) in
    rw is (subst W (sym place) (record {
      journal = refl;
      elsewhere = written_outside piece.extent piece.bytes old.pages long;
      each = All-cons (HoldsPiece (written start piece.bytes old.pages)) piece [] (record {
        inside = λ some. omega (arith, length-written start piece.bytes old.pages, long);
        bytes = written_in piece.extent piece.bytes old.pages long;
      }) (All-nil (HoldsPiece (written start piece.bytes old.pages)));
    }))

pub wrote_nothing : (old : Bytes) → Wrote [] old old
wrote_nothing old = record { journal = refl; elsewhere = same_outside [] old.pages; each = All-nil (HoldsPiece old.pages) }

-- pieces that are apart from others keep their bytes
pieces_stay : (pieces : List Piece) (others : List Extent) (was pages : List ℕ) → AreApartFrom (extents_of pieces) others → SameOutside (map range_of others) was pages
    → All (HoldsPiece was) pieces → All (HoldsPiece pages) pieces
pieces_stay [] others was pages apart same each = All-nil (HoldsPiece pages)
pieces_stay (q ∷ pieces) others was pages apart same each =
    let held = All-head (HoldsPiece was) q pieces each in
    All-cons (HoldsPiece pages) q pieces
    (record {
      inside = λ some. (let within = held.inside some in omega (arith, same.no_shorter));
      bytes = bytes_stay q.extent others was pages (λ p is taken. apart p (inl is) taken) held.inside same ∙ held.bytes;
    })
    (pieces_stay pieces others was pages (λ p one other. apart p (inr one) other) same (All-tail (HoldsPiece was) q pieces each))

pub ranges_join : (xs ys : List Piece) → ranges_of (xs ++ ys) ≡ ranges_of xs ++ ranges_of ys
ranges_join xs ys = ap (map range_of) (map-append (λ (piece : Piece). piece.extent) xs ys) ∙ map-append range_of (extents_of xs) (extents_of ys)

-- good writes in a row
pub wrote_join : (xs ys : List Piece) (a b c : Bytes) → AreApart (extents_of (xs ++ ys)) → Wrote xs a b → Wrote ys b c → Wrote (xs ++ ys) a c
wrote_join xs ys a b c apart one two =
    let extents : extents_of (xs ++ ys) ≡ extents_of xs ++ extents_of ys = map-append (λ (piece : Piece). piece.extent) xs ys in
    let parts = apart_parts (extents_of xs) (extents_of ys) (subst AreApart extents apart) in
    let S : List Range → Type 0 = λ rs. SameOutside rs a.pages c.pages in
    record {
      journal = two.journal ∙ one.journal;
      elsewhere = subst S (sym (ranges_join xs ys)) (same_joins (ranges_of xs) (ranges_of ys) a.pages b.pages c.pages one.elsewhere two.elsewhere);
      each = All-append (HoldsPiece c.pages) xs ys (pieces_stay xs (extents_of ys) b.pages c.pages parts.0 two.elsewhere one.each) two.each;
    }

-- and a good sync behind them
pub stored_synced : (pieces : List Piece) (a b c : DiskState) → Wrote pieces a.holds b.holds → Syncs b c → IsSynced b c → Stored pieces a c
stored_synced pieces a b c wrote syncs synced =
    let W : Bytes → Type 0 = λ h. Wrote pieces a.holds h in
    let O : Bytes → Type 0 = λ h. Only h c in
    record { wrote = subst W (sym syncs.holds) wrote; only = subst O (sym syncs.holds) (only_synced b c synced) }
