-- Pages that are written, asked for and given back.
use Rattle.std.proofs.Common.{◌≡◌, ℕ, ◌+◌, ◌*◌, ◌<◌, ◌≤◌, not, ◌&&◌, List, [], ◌∷◌, ◌++◌, length, drop, map, get_or, All, refl, sym, ap, subst, ◌∙◌, inl, inr, arith, nat_le, nat_lt, zero-add}
use Rattle.std.specs.List.{range_with_len}
use Rattle.std.proofs.lemmas.Bool.{le-leb, lt-ltb}
use Rattle.std.proofs.lemmas.List.{length-take, length-drop}
use Rattle.std.proofs.lemmas.List.Elements.{All-filter, All-map, All-head, All-tail, filter_passes}
use Rattle.std.proofs.lemmas.List.FromFn.{length-range_with_len, get_or-range_with_len}
use Rattle.base_types.specs.declared.extent.Extent.{Extent}
use Rattle.pages_area.specs.Ranges.{SameOutside, range_of}
use Rattle.pages_area.specs.Runs.{IsPageOf, IsTaken, pages_for}
use Rattle.pages_area.proofs.StayLemmas.{untouched, part_stays}
use Rattle.pages_area.specs.Caches.{Kept, after_asking, after_asking_all, missed_by_all, IsHeld, StandsFor}
use Rattle.pages_area.specs.Pieces.{piece, first_pieces, without_pages}
use Rattle.pages_area.specs.CacheLaws.{LieIn}
use Rattle.pages_area.proofs.CacheLemmas.{all-asked}

-- some pages are asked for, and then others
pub askings-join : (ks ls cache : List Kept) → after_asking_all (ks ++ ls) cache ≡ after_asking_all ls (after_asking_all ks cache)
askings-join [] ls cache = refl
askings-join (k ∷ ks) ls cache = askings-join ks ls (after_asking k cache)

pub misses-join : (ks ls cache : List Kept) → missed_by_all (ks ++ ls) cache ≡ missed_by_all ks cache + missed_by_all ls (after_asking_all ks cache)
misses-join [] ls cache = omega arith
misses-join (k ∷ ks) ls cache = omega (arith, misses-join ks ls (after_asking k cache))

-- what is kept of a page that isn't among those of extents stays
held-stays : (k : Kept) (extents : List Extent) (was pages : List ℕ) → (IsTaken extents k.page → ⊥) → SameOutside (map range_of extents) was pages → IsHeld was k → IsHeld pages k
held-stays k extents was pages apart same held =
    let at : ℕ = k.page * 4096 in
    let n : ℕ = length k.bytes in
    record {
      within = held.within;
      bytes = held.bytes ∙ sym (part_stays (map range_of extents) at n was pages (λ i low high. untouched extents k.page i apart low (omega (arith, high, held.within)))
          (λ some. omega (arith, some, ap length held.bytes, length-take n (drop at was), length-drop at was)) same);
    }

pub writes-stand : (cache : List Kept) (extents : List Extent) (was pages : List ℕ) → All (λ k. IsTaken extents k.page → ⊥) cache
    → SameOutside (map range_of extents) was pages → StandsFor cache was → StandsFor cache pages
writes-stand cache extents was pages apart same stands i d within = held-stays (get_or cache i d) extents was pages (apart i d within) same (stands i d within)

-- pages that are given back are kept no longer
pub left-are-apart : (e : Extent) (cache : List Kept) → All (λ k. IsPageOf e k.page → ⊥) (without_pages e cache)
left-are-apart e cache i d within is =
    let left = filter_passes (λ k. not (nat_le e.first k.page && nat_lt k.page (e.first + pages_for e.bytes))) cache i d within in
    let left' = rw (le-leb e.first _ is.0, lt-ltb _ (e.first + pages_for e.bytes) is.1) at left in cc

-- a page that isn't the extent's is one of the others'
taken-rest : (before after : List Extent) (e : Extent) (p : ℕ) → (IsPageOf e p → ⊥) → IsTaken (before ++ e ∷ after) p → IsTaken (before ++ after) p
taken-rest [] after e p other (inl is) = absurd (other is)
taken-rest [] after e p other (inr more) = more
taken-rest (b ∷ before) after e p other (inl is) = inl is
taken-rest (b ∷ before) after e p other (inr more) = inr (taken-rest before after e p other more)

pub left-in-rest : (before after : List Extent) (e : Extent) (cache : List Kept) → LieIn (before ++ e ∷ after) cache → LieIn (before ++ after) (without_pages e cache)
left-in-rest before after e cache lie i d within =
    taken-rest before after e (get_or (without_pages e cache) i d).page (left-are-apart e cache i d within)
    (All-filter _ (λ k. IsTaken (before ++ e ∷ after) k.page) cache lie i d within)

-- what holds of each page that is asked for holds of each that is kept
all-asked-all : (P : Kept → Type 0) (ks cache : List Kept) → All P ks → All P cache → All P (after_asking_all ks cache)
all-asked-all P [] cache these all = all
all-asked-all P (k ∷ ks) cache these all =
    all-asked-all P ks (after_asking k cache) (All-tail P k ks these) (all-asked P 1024 k cache (All-head P k ks these) all)

pub asked-in-taken : (extents : List Extent) (e : Extent) (n : ℕ) (bytes : List ℕ) (cache : List Kept) → ((p : ℕ) → IsPageOf e p → IsTaken extents p)
    → n ≤ pages_for e.bytes → LieIn extents cache → LieIn extents (after_asking_all (first_pieces n e.first bytes) cache)
asked-in-taken extents e n bytes cache among few lie =
    all-asked-all (λ k. IsTaken extents k.page) (first_pieces n e.first bytes) cache
    (All-map (λ k. IsTaken extents k.page) (piece e.first bytes) (range_with_len 0 n) (λ i d within.
    let below : i < n = omega (arith, within, length-range_with_len 0 n) in
    let is : get_or (range_with_len 0 n) i d ≡ i = get_or-range_with_len 0 n i d below ∙ zero-add i in
    subst (λ j. IsTaken extents (e.first + j)) (sym is) (among (e.first + i) (omega arith, omega (arith, below, few)))))
    lie
