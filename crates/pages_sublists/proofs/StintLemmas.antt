-- Places of which all pages were written, some at a time.
use Rattle.std.proofs.Common.{◌≡◌, ℕ, zero, suc, ◌+◌, ◌-◌, ◌*◌, ◌<◌, ◌≤◌, List, [], ◌∷◌, length, take, drop, map, All, inl, inr, refl, ap, sym, subst, ◌∙◌, arith}
use Rattle.std.specs.List.{AllZip}
use Rattle.std.proofs.Math.Seq.{take-add}
use Rattle.std.proofs.lemmas.Bool.{cases_lt}
use Rattle.std.proofs.lemmas.List.{length-take, length-drop, take_all, take-take, drop-drop}
use Rattle.std.proofs.lemmas.List.Elements.{All-nil, All-cons}
use Rattle.std.proofs.lemmas.List.FromFn.{length-map-range_with_len, get_or-map-range_with_len}
use Rattle.machine_model.specs.Calls.{IsSynced, Syncs}
use Rattle.machine_model.specs.States.{DiskState}
use Rattle.machine_model.specs.declared.range.Range.{Range}
use Rattle.base_types.specs.declared.extent.Extent.{Extent}
use Rattle.pages_area.specs.Caches.{Kept, IsHeld, StandsFor}
use Rattle.pages_area.specs.Crash.{ChangesOnly}
use Rattle.pages_area.specs.Live.{IsInside}
use Rattle.pages_area.specs.Pieces.{piece, pieces}
use Rattle.pages_area.specs.Ranges.{SameOutside, range_of}
use Rattle.pages_area.specs.Runs.{pages_for}
use Rattle.pages_area.specs.Wrote.{HoldsPiece, Stored, ranges_of}
use Rattle.pages_area.proofs.WroteLemmas.{stored_synced}
use Rattle.journal_entries.specs.declared.place.Place.{Place}
use Rattle.pages_sublists.specs.Paged.{ReachPages, WrotePages, page_ranges, pages_of}
use Rattle.pages_sublists.specs.Preparing.{IsFor, extents, pieces_of}
use Rattle.pages_sublists.proofs.PagedLemmas.{all_left, all_right, changes_wider, paged_untouched, piece_long, some_outside, untouched_part}
use Rattle.pages_sublists.proofs.WriteLemmas.{extents_same}

-- some pages of places change only what the bytes for these have
pub some_change_places : (places : List Place) (all : List (List ℕ)) (m s : ℕ) (a b : DiskState) → AllZip IsFor places all → ChangesOnly (page_ranges (take m (drop s (pages_of (pieces_of places all))))) a b
    → ChangesOnly (ranges_of (pieces_of places all)) a b
some_change_places places all m s a b each changes =
    subst (λ (rs : List Range). ChangesOnly rs a b) (sym (ap (map range_of) (extents_same places all each)))
    (changes_wider (page_ranges (take m (drop s (pages_of (pieces_of places all))))) (map range_of (extents places)) a b
    (λ k un. untouched_part (λ x. record { at = x.page * 4096; count = length x.bytes }) m s (pages_of (pieces_of places all)) k (paged_untouched places all k each un)) changes)

-- what holds of each piece of an extent's bytes holds of the piece of one page
held_at : (P : Kept → Type 0) (first : ℕ) (bytes : List ℕ) (i : ℕ) → All P (pieces first bytes) → i < pages_for (length bytes) → P (piece first bytes i)
held_at P first bytes i all below =
    let n : ℕ = pages_for (length bytes) in
    subst P (get_or-map-range_with_len (piece first bytes) 0 n i i (piece first bytes 0) below (omega arith))
    (all i (piece first bytes 0) (omega (arith, below, length-map-range_with_len (piece first bytes) 0 n)))

-- where each page is what Pages holds, so are the bytes up to any place
pages_held : (n m first : ℕ) (bytes pages : List ℕ) → m ≤ 4096 * n → m ≤ length bytes → ((k : ℕ) → k < n → IsHeld pages (piece first bytes k)) → take m bytes ≡ take m (drop (first * 4096) pages)
pages_held zero m first bytes pages low within held = let none : m ≡ 0 = omega arith in rw none refl
pages_held (suc n) m first bytes pages low within held = elim (cases_lt m (4096 * n)) [
  | inl before ↦ pages_held n m first bytes pages (omega arith) within (λ k below. held k (omega arith))
  | inr from ↦ (
      let at : ℕ = 4096 * n in
      let r : ℕ = m - at in
      let there : List ℕ = drop (first * 4096) pages in
      let k : Kept = piece first bytes n in
      let is : m ≡ at + r = omega arith in
      let page : k.page * 4096 ≡ first * 4096 + at = omega arith in
      let long : r ≤ length k.bytes = omega (arith, length-take 4096 (drop at bytes), length-drop at bytes) in
      let front : take at bytes ≡ take at there = pages_held n at first bytes pages (omega arith) (omega arith) (λ i below. held i (omega arith)) in
      let last : k.bytes ≡ take (length k.bytes) (drop at there) =
      (held n (omega arith)).bytes ∙ ap (take (length k.bytes)) (ap (λ i. drop i pages) page ∙ sym (drop-drop at (first * 4096) pages)) in
      let rest : take r (drop at bytes) ≡ take r (drop at there) =
      sym (take-take r 4096 (drop at bytes) (omega arith)) ∙ ap (take r) last ∙ take-take r (length k.bytes) (drop at there) long in
      ap (λ i. take i bytes) is ∙ take-add at r bytes ∙ rw (front, rest) refl ∙ sym (take-add at r there) ∙ ap (λ i. take i there) (sym is))
]

piece_held_whole : (e : Extent) (bytes pages : List ℕ) → length bytes ≡ e.bytes → StandsFor (pieces e.first bytes) pages → HoldsPiece pages (record { extent = e; bytes = bytes })
piece_held_whole e bytes pages long held = record {
  inside = λ some.
      let i : ℕ = pages_for (length bytes) - 1 in
      let k : Kept = piece e.first bytes i in
      let last = held_at (IsHeld pages) e.first bytes i held (omega (arith, long, some)) in
      omega (arith, piece_long e.first bytes i, ap (λ (l : List ℕ). length l) last.bytes, length-take (length k.bytes) (drop (k.page * 4096) pages), length-drop (k.page * 4096) pages, long, some);
  bytes = ap (λ n. take n (drop (e.first * 4096) pages)) (sym long)
      ∙ sym (pages_held (pages_for (length bytes)) (length bytes) e.first bytes pages (omega arith) (omega arith) (λ k below. held_at (IsHeld pages) e.first bytes k held below)) ∙ take_all (length bytes) bytes (omega arith);
}

-- pages that hold each page of places hold the places' bytes
paged_held : (places : List Place) (all : List (List ℕ)) (pages : List ℕ) → AllZip IsFor places all → StandsFor (pages_of (pieces_of places all)) pages → All (HoldsPiece pages) (pieces_of places all)
paged_held [] all pages each held = All-nil (HoldsPiece pages)
paged_held (p ∷ places) [] pages each held = absurd each
paged_held (p ∷ places) (b ∷ all) pages each held =
    let front = pieces p.extent.first b in
    let behind = pages_of (pieces_of places all) in
    All-cons (HoldsPiece pages) (record { extent = p.extent; bytes = b }) (pieces_of places all)
    (piece_held_whole p.extent b pages (sym each.0.size) (all_left (IsHeld pages) front behind held))
    (paged_held places all pages each.1 (all_right (IsHeld pages) front behind held))

-- The last pages are written, and then all is made durable: a stop leaves the bytes of all places, and nothing else.
pub rest_stored : (places : List Place) (all : List (List ℕ)) (m s : ℕ) (old mid new : DiskState) → AllZip IsFor places all → length (pages_of (pieces_of places all)) ≤ s + m
    → WrotePages (take m (drop s (pages_of (pieces_of places all)))) old.holds mid.holds → StandsFor (take (s + m) (pages_of (pieces_of places all))) mid.holds.pages → Syncs mid new → IsSynced mid new
    → Stored (pieces_of places all) old new
rest_stored places all m s old mid new each last wrote held syncs synced =
    stored_synced (pieces_of places all) old mid new (record {
      journal = wrote.journal;
      elsewhere = subst (λ (rs : List Range). SameOutside rs old.holds.pages mid.holds.pages) (sym (ap (map range_of) (extents_same places all each))) (some_outside places all m s old.holds.pages mid.holds.pages each wrote.elsewhere);
      each = paged_held places all mid.holds.pages each (subst (λ (ks : List Kept). StandsFor ks mid.holds.pages) (take_all (s + m) (pages_of (pieces_of places all)) last) held);
    }) syncs synced

-- bytes that reach as far as each page of places reach as far as the places
whole_reach : (e : Extent) (bytes : List ℕ) (n : ℕ) → length bytes ≡ e.bytes → (e.bytes ≡ 0 → e.first ≡ 0) → ReachPages n (pieces e.first bytes) → IsInside n e
whole_reach e bytes n long empty reached = elim (cases_lt 0 e.bytes) [
  | inl some ↦ (
      let i : ℕ = pages_for (length bytes) - 1 in
      omega (arith, held_at (λ k. k.page * 4096 + length k.bytes ≤ n) e.first bytes i reached (omega (arith, long, some)), piece_long e.first bytes i, long, some))
  | inr none ↦ omega (arith, none, empty (omega (arith, none)))
]

pub places_reach : (places : List Place) (all : List (List ℕ)) (n : ℕ) → AllZip IsFor places all → ReachPages n (pages_of (pieces_of places all)) → All (λ (p : Place). IsInside n p.extent) places
places_reach [] all n each reached = All-nil (λ (p : Place). IsInside n p.extent)
places_reach (p ∷ places) [] n each reached = absurd each
places_reach (p ∷ places) (b ∷ all) n each reached =
    let R : Kept → Type 0 = λ k. k.page * 4096 + length k.bytes ≤ n in
    let front = pieces p.extent.first b in
    let behind = pages_of (pieces_of places all) in
    All-cons (λ (p : Place). IsInside n p.extent) p places (whole_reach p.extent b n (sym each.0.size) each.0.empty (all_left R front behind reached)) (places_reach places all n each.1 (all_right R front behind reached))
