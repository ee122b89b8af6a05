-- Pages that are written, counted over the places in order.
use Rattle.std.proofs.Common.{Bool, true, false, ◌==◌, if◌then◌else◌, max, ◌≡◌, ◌⊎◌, ℕ, zero, suc, ◌+◌, ◌-◌, ◌*◌, ◌/◌, ◌<◌, ◌≤◌, min, List, [], ◌∷◌, ◌++◌, length, take, drop, map, get_or, All, inl, inr, refl, ap, sym, subst, ◌∙◌, arith, length-append, length-drop, append_assoc, add-one, zero-add, Result, OnOk}
use Rattle.std.specs.List.{AllZip, range_with_len}
use Rattle.std.proofs.Math.Seq.{drop-append-add, take-append-add, drop-cons, take-add}
use Rattle.std.proofs.lemmas.Bool.{cases_lt}
use Rattle.std.proofs.lemmas.Result.{on_ok_weaker}
use Rattle.std.proofs.lemmas.List.{length-take, take-append-le, drop-append-le, take_all, drop_all, append-nil, take-take, drop-take, drop-drop, get_or-take, get_or-drop, get_or-append-add, get_or_append_left, ext_get_or, map-append}
use Rattle.std.specs.List.Sorted.{IsNonDecreasingBy}
use Rattle.std.proofs.lemmas.List.Sums.{sum_by-cons}
use Rattle.std.proofs.lemmas.List.Elements.{All-nil, All-cons, All-head, All-tail, All-append, All-map, All-weaker}
use Rattle.std.proofs.lemmas.List.FromFn.{length-map-range_with_len, get_or-map-range_with_len, length-range_with_len, get_or-range_with_len}
use Rattle.machine_model.specs.Areas.{Bytes}
use Rattle.machine_model.specs.States.{DiskState}
use Rattle.machine_model.specs.Images.{IsUntouched}
use Rattle.machine_model.specs.declared.range.Range.{Range}
use Rattle.base_types.specs.declared.extent.Extent.{Extent}
use Rattle.pages_area.specs.Crash.{ChangesOnly}
use Rattle.pages_area.specs.Ranges.{SameOutside, range_of, bytes_in}
use Rattle.pages_area.specs.Runs.{IsPageOf, IsTaken, pages_for}
use Rattle.pages_area.specs.Taken.{AreApart, HasTaken, PagesState}
use Rattle.pages_area.proofs.StayLemmas.{apart_left, part_stays}
use Rattle.pages_area.specs.Wrote.{Piece, HoldsPiece, Wrote, reach_with}
use Rattle.pages_area.proofs.ChangeLemmas.{changes_join, changes_more, changes_nothing, same_joins, same_outside}
use Rattle.pages_area.specs.Caches.{Kept, IsHeld, StandsFor}
use Rattle.pages_area.specs.Pieces.{piece, pieces}
use Rattle.pages_area.proofs.CacheLawLemmas.{writes-stand}
use Rattle.journal_entries.specs.declared.place.Place.{Place}
use Rattle.pages_sublists.specs.Paged.{AreStarts, pages_in_front, pages_of, page_ranges, WrotePages, ReachPages}
use Rattle.pages_sublists.specs.Preparing.{IsFor, extents, pieces_of}
use Rattle.pages_sublists.proofs.WriteLemmas.{pieces_from, pieces_at, pieces_end}

-- ---- lists that are cut

drop_joined : {X : Type 0} (n : ℕ) (xs ys : List X) → drop n (xs ++ ys) ≡ drop n xs ++ drop (n - length xs) ys
drop_joined n xs ys = elim (cases_lt (length xs) n) [
  | inl behind ↦ (
      let r : ℕ = n - length xs in
      let is : n ≡ length xs + r = omega (arith, behind) in
      ap (λ i. drop i (xs ++ ys)) is ∙ drop-append-add xs ys r ∙ ap (λ l. l ++ drop r ys) (sym (drop_all n xs (omega (arith, behind)))))
  | inr before ↦ (
      let none : n - length xs ≡ 0 = omega (arith, before) in
      drop-append-le n xs ys (omega (arith, before)) ∙ ap (λ i. drop n xs ++ drop i ys) (sym none))
]

take_joined : {X : Type 0} (n : ℕ) (xs ys : List X) → take n (xs ++ ys) ≡ take n xs ++ take (n - length xs) ys
take_joined n xs ys = elim (cases_lt (length xs) n) [
  | inl behind ↦ (
      let r : ℕ = n - length xs in
      let is : n ≡ length xs + r = omega (arith, behind) in
      ap (λ i. take i (xs ++ ys)) is ∙ take-append-add xs ys r ∙ ap (λ l. l ++ take r ys) (sym (take_all n xs (omega (arith, behind)))))
  | inr before ↦ (
      let none : n - length xs ≡ 0 = omega (arith, before) in
      take-append-le n xs ys (omega (arith, before)) ∙ sym (append-nil (take n xs)) ∙ ap (λ i. take n xs ++ take i ys) (sym none))
]

-- m items behind the first s: those of the front, and then what is left of them behind
pub cut : {X : Type 0} (m s : ℕ) (xs ys : List X)
    → take m (drop s (xs ++ ys)) ≡ take m (drop s xs) ++ take (m - length (take m (drop s xs))) (drop (s - length xs) ys)
cut m s xs ys =
    let front = drop s xs in
    let behind = drop (s - length xs) ys in
    let left : m - length front ≡ m - length (take m front) = omega (arith, length-take m front) in
    ap (take m) (drop_joined s xs ys) ∙ take_joined m front behind ∙ ap (λ i. take m front ++ take i behind) left

all_part : {X : Type 0} (P : X → Type 0) (m s : ℕ) (xs : List X) → All P xs → All P (take m (drop s xs))
all_part P m s xs all i d within =
    let short : i < m = omega (arith, within, length-take m (drop s xs)) in
    let there : s + i < length xs = omega (arith, within, length-take m (drop s xs), length-drop s xs) in
    subst P (sym (get_or-take m (drop s xs) i d short ∙ get_or-drop s xs i d)) (all (s + i) d there)

-- ---- bytes that are outside of ranges

pub untouched_part : (f : Kept → Range) (m s : ℕ) (ks : List Kept) (k : ℕ) → IsUntouched (map f ks) k → IsUntouched (map f (take m (drop s ks))) k
untouched_part f zero s ks k un = tt
untouched_part f (suc m) zero [] k un = tt
untouched_part f (suc m) zero (x ∷ ks) k un = (un.0, untouched_part f m zero ks k un.1)
untouched_part f (suc m) (suc s) [] k un = tt
untouched_part f (suc m) (suc s) (x ∷ ks) k un = untouched_part f (suc m) s ks k un.1

untouched_at : (f : Kept → Range) (ks : List Kept) (k i : ℕ) (d : Kept) → IsUntouched (map f ks) k → i < length ks → (k < (f (get_or ks i d)).at) ⊎ ((f (get_or ks i d)).at + (f (get_or ks i d)).count ≤ k)
untouched_at f [] k i d un within = absurd (omega (arith, within))
untouched_at f (x ∷ ks) k zero d un within = un.0
untouched_at f (x ∷ ks) k (suc i) d un within = untouched_at f ks k i d un.1 (omega (arith, within))

untouched_all : (f : Kept → Range) (ks : List Kept) (k : ℕ) → All (λ x. (k < (f x).at) ⊎ ((f x).at + (f x).count ≤ k)) ks → IsUntouched (map f ks) k
untouched_all f [] k all = tt
untouched_all f (x ∷ ks) k all = let P : Kept → Type 0 = λ x. (k < (f x).at) ⊎ ((f x).at + (f x).count ≤ k) in (All-head P x ks all, untouched_all f ks k (All-tail P x ks all))

untouched_join : (xs ys : List Range) (k : ℕ) → IsUntouched xs k → IsUntouched ys k → IsUntouched (xs ++ ys) k
untouched_join [] ys k one two = two
untouched_join (x ∷ xs) ys k one two = (one.0, untouched_join xs ys k one.1 two)

-- what leaves all but narrower ranges as it was leaves all but wider ones so
pub same_wider : (xs ys : List Range) (was pages : List ℕ) → ((k : ℕ) → IsUntouched ys k → IsUntouched xs k) → SameOutside xs was pages → SameOutside ys was pages
same_wider xs ys was pages wider same = record { no_shorter = same.no_shorter; same = λ k inside un. same.same k inside (wider k un) }

pub changes_wider : (xs ys : List Range) (a b : DiskState) → ((k : ℕ) → IsUntouched ys k → IsUntouched xs k) → ChangesOnly xs a b → ChangesOnly ys a b
changes_wider xs ys a b wider changes = record {
  goes_on = changes.goes_on;
  images = λ image beside left. let was = changes.images image beside left in (was.0, was.1, was.2, same_wider xs ys was.0.pages image.pages wider was.3, was.4);
}

-- ---- the pages of one extent

all_pieces : (P : Kept → Type 0) (first : ℕ) (bytes : List ℕ) → ((i : ℕ) → i < pages_for (length bytes) → P (piece first bytes i)) → All P (pieces first bytes)
all_pieces P first bytes each =
    let n : ℕ = pages_for (length bytes) in
    All-map P (piece first bytes) (range_with_len 0 n) (λ i d within.
    let below : i < n = omega (arith, within, length-range_with_len 0 n) in
    let is : get_or (range_with_len 0 n) i d ≡ i = get_or-range_with_len 0 n i d below ∙ zero-add i in
    subst (λ j. P (piece first bytes j)) (sym is) (each i below))

pub piece_long : (first : ℕ) (bytes : List ℕ) (i : ℕ) → length (piece first bytes i).bytes ≡ min 4096 (length bytes - 4096 * i)
piece_long first bytes i = omega (arith, length-take 4096 (drop (4096 * i) bytes), length-drop (4096 * i) bytes)

-- each is one of its pages
pub pieces_lie : (e : Extent) (bytes : List ℕ) → length bytes ≡ e.bytes → All (λ k. IsPageOf e k.page) (pieces e.first bytes)
pieces_lie e bytes long = all_pieces (λ k. IsPageOf e k.page) e.first bytes (λ i below. (omega arith, omega (arith, below, long)))

-- each lies inside
pieces_reach : (first : ℕ) (bytes : List ℕ) (n : ℕ) → (0 < length bytes → first * 4096 + length bytes ≤ n) → ReachPages n (pieces first bytes)
pieces_reach first bytes n inside = all_pieces (λ k. k.page * 4096 + length k.bytes ≤ n) first bytes (λ i below. omega (arith, piece_long first bytes i, below, inside (omega (arith, below))))

-- each byte of an extent is one of a page
run_touched : (e : Extent) (bytes : List ℕ) (k : ℕ) → length bytes ≡ e.bytes → IsUntouched (page_ranges (pieces e.first bytes)) k → e.first * 4096 ≤ k → k < e.first * 4096 + e.bytes → ⊥
run_touched e bytes k long un from within =
    let n : ℕ = pages_for (length bytes) in
    let i : ℕ = (k - e.first * 4096) / 4096 in
    let below : i < n = omega (arith, from, within, long) in
    let d : Kept = piece e.first bytes 0 in
    let f : Kept → Range = λ x. record { at = x.page * 4096; count = length x.bytes } in
    let out = untouched_at f (pieces e.first bytes) k i d un (omega (arith, below, length-map-range_with_len (piece e.first bytes) 0 n)) in
    let is : get_or (pieces e.first bytes) i d ≡ piece e.first bytes i = get_or-map-range_with_len (piece e.first bytes) 0 n i i d below (omega arith) in
    let there : (k < (e.first + i) * 4096) ⊎ ((e.first + i) * 4096 + length (piece e.first bytes i).bytes ≤ k) = subst (λ (x : Kept). (k < (f x).at) ⊎ ((f x).at + (f x).count ≤ k)) is out in
    elim there [ inl before ↦ omega (arith, before, from) | inr behind ↦ omega (arith, behind, piece_long e.first bytes i, from, within, long) ]

-- a byte outside of the pages is outside of the extent
run_untouched : (e : Extent) (bytes : List ℕ) (k : ℕ) → length bytes ≡ e.bytes → IsUntouched (page_ranges (pieces e.first bytes)) k → IsUntouched (range_of e ∷ []) k
run_untouched e bytes k long un = (
  elim (cases_lt k (e.first * 4096)) [
    | inl before ↦ inl before
    | inr from ↦ elim (cases_lt k (e.first * 4096 + e.bytes)) [
      | inr behind ↦ inr behind
      | inl within ↦ absurd (run_touched e bytes k long un from within)
    ]
  ],
  tt,
)

-- and the other way round
pub pages_untouched : (e : Extent) (bytes : List ℕ) (k : ℕ) → length bytes ≡ e.bytes → IsUntouched (range_of e ∷ []) k → IsUntouched (page_ranges (pieces e.first bytes)) k
pages_untouched e bytes k long un =
    untouched_all (λ x. record { at = x.page * 4096; count = length x.bytes }) (pieces e.first bytes) k
    (all_pieces (λ x. (k < x.page * 4096) ⊎ (x.page * 4096 + length x.bytes ≤ k)) e.first bytes (λ i below. elim un.0 [
      | inl before ↦ inl (omega (arith, before))
      | inr behind ↦ inr (omega (arith, behind, piece_long e.first bytes i, below, long))
    ]))

-- m items behind i of a part, where the part has them all or ends where the whole does
part_same : (m i n a : ℕ) (xs : List ℕ) → i ≤ n → (i + m ≤ n) ⊎ (length xs ≡ a + n) → take m (drop i (take n (drop a xs))) ≡ take m (drop (a + i) xs)
part_same m i n a xs low which =
    let r : ℕ = n - i in
    let is : n ≡ i + r = omega (arith, low) in
    let zs : List ℕ = drop i (drop a xs) in
    let cut_is : drop i (take n (drop a xs)) ≡ take r zs = ap (λ j. drop i (take j (drop a xs))) is ∙ drop-take i r (drop a xs) in
    let shorter : take m (take r zs) ≡ take m zs = elim which [
      | inl has ↦ take-take m r zs (omega (arith, has))
      | inr ends ↦ ap (take m) (take_all r zs (omega (arith, length-drop i (drop a xs), length-drop a xs, ends)))
    ] in
    ap (take m) cut_is ∙ shorter ∙ ap (take m) (drop-drop i a xs)

-- the pages of a part of an extent are those of the extent from one on
pub part_pieces : (first from count : ℕ) (bytes part : List ℕ) → from + count ≤ pages_for (length bytes)
    → part ≡ take (min (length bytes) (4096 * (from + count)) - 4096 * from) (drop (4096 * from) bytes) → pieces (first + from) part ≡ take count (drop from (pieces first bytes))
part_pieces first from count bytes part within is =
    let n : ℕ = pages_for (length bytes) in
    let a : ℕ = 4096 * from in
    let m : ℕ = min (length bytes) (4096 * (from + count)) - a in
    let f : ℕ → Kept = piece first bytes in
    let g : ℕ → Kept = piece (first + from) part in
    let d : Kept = f 0 in
    let long : length part ≡ m = ap length is ∙ omega (arith, length-take m (drop a bytes), length-drop a bytes) in
    let pages : pages_for (length part) ≡ count = omega (arith, long, within) in
    let all : length (pieces first bytes) ≡ n = length-map-range_with_len f 0 n in
    let mine : length (pieces (first + from) part) ≡ count = length-map-range_with_len g 0 (pages_for (length part)) ∙ pages in
    let theirs : length (take count (drop from (pieces first bytes))) ≡ count =
    omega (arith, length-take count (drop from (pieces first bytes)), length-drop from (pieces first bytes), all, within) in
    ext_get_or d (pieces (first + from) part) (take count (drop from (pieces first bytes))) (mine ∙ sym theirs) (λ i low.
    let below : i < count = omega (arith, low, mine) in
    let one : get_or (pieces (first + from) part) i d ≡ g i = get_or-map-range_with_len g 0 (pages_for (length part)) i i d (omega (arith, below, pages)) (omega arith) in
    let other : get_or (take count (drop from (pieces first bytes))) i d ≡ f (from + i) =
    get_or-take count (drop from (pieces first bytes)) i d below ∙ get_or-drop from (pieces first bytes) i d
    ∙ get_or-map-range_with_len f 0 n (from + i) (from + i) d (omega (arith, below, within)) (omega arith) in
    let there : drop (4096 * (from + i)) bytes ≡ drop (a + 4096 * i) bytes = ap (λ j. drop j bytes) (omega arith) in
    let which : (4096 * i + 4096 ≤ m) ⊎ (length bytes ≡ a + m) = elim (cases_lt (length bytes) (4096 * (from + count))) [
      | inl ends ↦ inr (omega (arith, ends, below, within))
      | inr more ↦ inl (omega (arith, more, below))
    ] in
    let same : take 4096 (drop (4096 * i) part) ≡ take 4096 (drop (4096 * (from + i)) bytes) =
    ap (λ l. take 4096 (drop (4096 * i) l)) is ∙ part_same 4096 (4096 * i) m a bytes (omega (arith, below, within)) which ∙ ap (take 4096) (sym there) in
    let page : first + from + i ≡ first + (from + i) = omega arith in
    one ∙ ap (λ p. record { page = p; bytes = take 4096 (drop (4096 * i) part) }) page ∙ ap (λ l. record { page = first + (from + i); bytes = l }) same ∙ sym other)

-- pages that hold an extent's bytes hold each of its pages
piece_held : (e : Extent) (bytes pages : List ℕ) (i : ℕ) → length bytes ≡ e.bytes → bytes_in e pages ≡ bytes → i < pages_for (length bytes) → IsHeld pages (piece e.first bytes i)
piece_held e bytes pages i long held below =
    let at : ℕ = e.first * 4096 in
    let k : Kept = piece e.first bytes i in
    let n : ℕ = length k.bytes in
    let size : n ≡ min 4096 (length bytes - 4096 * i) = piece_long e.first bytes i in
    let mine : k.bytes ≡ take 4096 (drop (4096 * i) (take e.bytes (drop at pages))) = ap (λ l. take 4096 (drop (4096 * i) l)) (sym held) in
    let short : k.bytes ≡ take n k.bytes = sym (take_all n k.bytes (omega arith)) in
    let whole : take n (take 4096 (drop (4096 * i) (take e.bytes (drop at pages)))) ≡ take n (drop (4096 * i) (take e.bytes (drop at pages))) = take-take n 4096 (drop (4096 * i) (take e.bytes (drop at pages))) (omega (arith, size)) in
    let there : take n (drop (4096 * i) (take e.bytes (drop at pages))) ≡ take n (drop (at + 4096 * i) pages) = part_same n (4096 * i) e.bytes at pages (omega (arith, below, long)) (inl (omega (arith, size, below, long))) in
    let place : at + 4096 * i ≡ k.page * 4096 = omega arith in
    record { within = omega (arith, size); bytes = short ∙ ap (take n) mine ∙ whole ∙ there ∙ ap (λ j. take n (drop j pages)) place }

held_pages : (e : Extent) (bytes pages : List ℕ) → length bytes ≡ e.bytes → bytes_in e pages ≡ bytes → StandsFor (pieces e.first bytes) pages
held_pages e bytes pages long held = all_pieces (IsHeld pages) e.first bytes (λ i below. piece_held e bytes pages i long held below)

-- one good write
pub wrote_pages : (p : Piece) (old new : Bytes) → length p.bytes ≡ p.extent.bytes → Wrote (p ∷ []) old new → WrotePages (pieces p.extent.first p.bytes) old new
wrote_pages p old new long wrote = record {
  journal = wrote.journal;
  elsewhere = same_wider (range_of p.extent ∷ []) (page_ranges (pieces p.extent.first p.bytes)) old.pages new.pages (λ k un. run_untouched p.extent p.bytes k long un) wrote.elsewhere;
  each = held_pages p.extent p.bytes new.pages long (All-head (HoldsPiece new.pages) p [] wrote.each).bytes;
}

pub changed_pages : (e : Extent) (bytes : List ℕ) (a b : DiskState) → length bytes ≡ e.bytes → ChangesOnly (range_of e ∷ []) a b → ChangesOnly (page_ranges (pieces e.first bytes)) a b
changed_pages e bytes a b long changes = changes_wider (range_of e ∷ []) (page_ranges (pieces e.first bytes)) a b (λ k un. run_untouched e bytes k long un) changes

-- ---- a part of one extent

take_few : {X : Type 0} (n m : ℕ) (l : List X) → m ≡ min (length l) n → take m l ≡ take n l
take_few n m l is = elim (cases_lt n (length l)) [
  | inl short ↦ ap (λ i. take i l) (omega (arith, is, short))
  | inr long ↦ take_all m l (omega (arith, is, long)) ∙ sym (take_all n l (omega (arith, long)))
]

-- behind the last page there is none
pub part_none : (first from most : ℕ) (bytes : List ℕ) → pages_for (length bytes) ≤ from → take most (drop from (pieces first bytes)) ≡ []
part_none first from most bytes behind =
    ap (take most) (drop_all from (pieces first bytes) (omega (arith, behind, length-map-range_with_len (piece first bytes) 0 (pages_for (length bytes))))) ∙ take_all most [] (omega arith)

-- the pages of the part that is written are the ones that were asked for
pub part_is : (e part : Extent) (from most count : ℕ) (bytes slice : List ℕ) → length bytes ≡ e.bytes → part.first ≡ e.first + from → from < pages_for e.bytes → count ≡ min (pages_for e.bytes - from) most
    → slice ≡ take (min e.bytes (4096 * (from + count)) - 4096 * from) (drop (4096 * from) bytes) → pieces part.first slice ≡ take most (drop from (pieces e.first bytes))
part_is e part from most count bytes slice long first below few is =
    let all : length (pieces e.first bytes) ≡ pages_for (length bytes) = length-map-range_with_len (piece e.first bytes) 0 (pages_for (length bytes)) in
    let cut_at : slice ≡ take (min (length bytes) (4096 * (from + count)) - 4096 * from) (drop (4096 * from) bytes) = is ∙ ap (λ n. take (min n (4096 * (from + count)) - 4096 * from) (drop (4096 * from) bytes)) (sym long) in
    ap (λ f. pieces f slice) first ∙ part_pieces e.first from count bytes slice (omega (arith, few, below, long)) cut_at
    ∙ take_few most count (drop from (pieces e.first bytes)) (omega (arith, few, length-drop from (pieces e.first bytes), all, long))

pub part_count : (first from most count : ℕ) (bytes : List ℕ) → count ≡ min (pages_for (length bytes) - from) most → count ≡ length (take most (drop from (pieces first bytes)))
part_count first from most count bytes few =
    omega (arith, few, length-take most (drop from (pieces first bytes)), length-drop from (pieces first bytes), length-map-range_with_len (piece first bytes) 0 (pages_for (length bytes)))

pub part_changed : (part : Extent) (slice : List ℕ) (these : List Kept) (a b : DiskState) → length slice ≡ part.bytes → pieces part.first slice ≡ these → ChangesOnly (range_of part ∷ []) a b → ChangesOnly (page_ranges these) a b
part_changed part slice these a b long same changes = subst (λ (ks : List Kept). ChangesOnly (page_ranges ks) a b) same (changed_pages part slice a b long changes)

pub part_wrote : (part : Extent) (slice : List ℕ) (these : List Kept) (a b : Bytes) → length slice ≡ part.bytes → pieces part.first slice ≡ these → Wrote (record { extent = part; bytes = slice } ∷ []) a b → WrotePages these a b
part_wrote part slice these a b long same wrote = subst (λ (ks : List Kept). WrotePages ks a b) same (wrote_pages (record { extent = part; bytes = slice }) a b long wrote)

pub part_reach : (part : Extent) (slice : List ℕ) (these : List Kept) (n : ℕ) → length slice ≡ part.bytes → pieces part.first slice ≡ these → (0 < part.bytes → part.first * 4096 + part.bytes ≤ n) → ReachPages n these
part_reach part slice these n long same inside = subst (λ (ks : List Kept). ReachPages n ks) same (pieces_reach part.first slice n (λ some. omega (arith, long, inside (omega (arith, long, some)))))

-- no page is written
pub none_changed : (these : List Kept) (d : DiskState) → these ≡ [] → ChangesOnly (page_ranges these) d d
none_changed these d none = changes_nothing (page_ranges these) d

pub none_wrote : (these : List Kept) (b : Bytes) → these ≡ [] → WrotePages these b b
none_wrote these b none = subst (λ (ks : List Kept). WrotePages ks b b) (sym none) (record { journal = refl; elsewhere = same_outside [] b.pages; each = All-nil (IsHeld b.pages) })

pub none_reach : (these : List Kept) (n : ℕ) → these ≡ [] → ReachPages n these
none_reach these n none = subst (λ (ks : List Kept). ReachPages n ks) (sym none) (All-nil (λ k. k.page * 4096 + length k.bytes ≤ n))

-- behind a good write Pages reach as far as the extent
pub reached_part : (e : Extent) (old new : ℕ) → new ≡ reach_with e old → 0 < e.bytes → e.first * 4096 + e.bytes ≤ new
reached_part e old new is some = cases (e.bytes == 0) refl
  where
    cases : (b : Bool) → (e.bytes == 0) ≡ b → e.first * 4096 + e.bytes ≤ new
    cases true null = absurd (let none : e.bytes ≡ 0 = grind (arith, null) in omega (arith, none, some))
    cases false more = omega (arith, is ∙ ap (λ (t : Bool). if t then old else max old (e.first * 4096 + e.bytes)) more)

-- ---- place by place

-- Some pages were written: done, before those that are left, so many of which are asked for; none of them is of the places that are left.
pub record AreWrittenSome (tells : Type 0) (old new : DiskState) (n most : ℕ) (rest : List Extent) (left all : List Kept) : Type 0 where
  pub fewer : n ≤ most
  pub done : List Kept
  pub is : done ++ left ≡ all
  pub rest_apart : AreApart rest
  pub apart : All (λ k. IsTaken rest k.page → ⊥) done
  pub images : tells → ChangesOnly (page_ranges done) old new
  pub wrote : tells → WrotePages done old.holds new.holds
  pub inside : ReachPages new.reach.pages done
  pub counted : n + length done ≡ most

pub some_none : (tells : Type 0) (old : DiskState) (most : ℕ) (rest : List Extent) (left all : List Kept) → AreApart rest → left ≡ all → AreWrittenSome tells old old most most rest left all
some_none tells old most rest left all apart same = record {
  fewer = omega arith;
  done = [];
  is = same;
  rest_apart = apart;
  apart = All-nil (λ k. IsTaken rest k.page → ⊥);
  images = λ told. changes_nothing [] old;
  wrote = λ told. record { journal = refl; elsewhere = same_outside [] old.holds.pages; each = All-nil (IsHeld old.holds.pages) };
  inside = All-nil (λ k. k.page * 4096 + length k.bytes ≤ old.reach.pages);
  counted = omega arith;
}

ranges_append : (xs ys : List Kept) → page_ranges (xs ++ ys) ≡ page_ranges xs ++ page_ranges ys
ranges_append xs ys = map-append (λ (k : Kept). record { at = k.page * 4096; count = length k.bytes }) xs ys

-- more pages are written, which are an extent's
wrote_more : (done these : List Kept) (e : Extent) (a b c : Bytes) → All (λ k. IsTaken (e ∷ []) k.page → ⊥) done → SameOutside (range_of e ∷ []) b.pages c.pages
    → WrotePages done a b → WrotePages these b c → WrotePages (done ++ these) a c
wrote_more done these e a b c apart same one two = record {
  journal = two.journal ∙ one.journal;
  elsewhere = subst (λ (rs : List Range). SameOutside rs a.pages c.pages) (sym (ranges_append done these)) (same_joins (page_ranges done) (page_ranges these) a.pages b.pages c.pages one.elsewhere two.elsewhere);
  each = All-append (IsHeld c.pages) done these (writes-stand done (e ∷ []) b.pages c.pages apart same one.each) two.each;
}

reach_longer : (a b : ℕ) (ks : List Kept) → a ≤ b → ReachPages a ks → ReachPages b ks
reach_longer a b ks longer all = All-weaker (λ k. k.page * 4096 + length k.bytes ≤ a) (λ k. k.page * 4096 + length k.bytes ≤ b) (λ k low. omega (arith, low, longer)) ks all

-- what a part of the pages of an extent leaves, the extent leaves
pub part_outside : (e : Extent) (bytes : List ℕ) (m s : ℕ) (was pages : List ℕ) → length bytes ≡ e.bytes → SameOutside (page_ranges (take m (drop s (pieces e.first bytes)))) was pages → SameOutside (range_of e ∷ []) was pages
part_outside e bytes m s was pages long same =
    same_wider (page_ranges (take m (drop s (pieces e.first bytes)))) (range_of e ∷ []) was pages
    (λ k un. untouched_part (λ x. record { at = x.page * 4096; count = length x.bytes }) m s (pieces e.first bytes) k (pages_untouched e bytes k long un)) same

pub some_more : (tells : Type 0) (old mid new : DiskState) (n less most : ℕ) (rest more : List Extent) (left after all : List Kept) (e : Extent) (bytes : List ℕ) (m s : ℕ) → rest ≡ e ∷ more → length bytes ≡ e.bytes
    → left ≡ take m (drop s (pieces e.first bytes)) ++ after → mid.reach.pages ≤ new.reach.pages → ReachPages new.reach.pages (take m (drop s (pieces e.first bytes)))
    → (tells → ChangesOnly (page_ranges (take m (drop s (pieces e.first bytes)))) mid new) → (tells → WrotePages (take m (drop s (pieces e.first bytes))) mid.holds new.holds)
    → less + length (take m (drop s (pieces e.first bytes))) ≡ n → AreWrittenSome tells old mid n most rest left all → AreWrittenSome tells old new less most more after all
some_more tells old mid new n less most rest more left after all e bytes m s rest_is long next longer inside changes wrote count so_far =
    let these = take m (drop s (pieces e.first bytes)) in
    let done = so_far.done in
    let rest_apart : AreApart (e ∷ more) = subst AreApart rest_is so_far.rest_apart in
    let apart : All (λ k. IsTaken (e ∷ more) k.page → ⊥) done = subst (λ (es : List Extent). All (λ k. IsTaken es k.page → ⊥) done) rest_is so_far.apart in
    let lie : All (λ k. IsPageOf e k.page) these = all_part (λ k. IsPageOf e k.page) m s (pieces e.first bytes) (pieces_lie e bytes long) in
    let from_e : All (λ k. IsTaken (e ∷ []) k.page → ⊥) done =
    All-weaker (λ k. IsTaken (e ∷ more) k.page → ⊥) (λ k. IsTaken (e ∷ []) k.page → ⊥) (λ k never taken. elim taken [ inl mine ↦ never (inl mine) | inr other ↦ other ]) done apart in
    let R : List Range → Type 0 = λ rs. ChangesOnly rs old new in
    record {
      fewer = omega (arith, so_far.fewer, count);
      counted = omega (arith, so_far.counted, count, length-append done these);
      done = done ++ these;
      is = append_assoc done these after ∙ ap (λ (l : List Kept). done ++ l) (sym next) ∙ so_far.is;
      rest_apart = rest_apart.1;
      apart = All-append (λ k. IsTaken more k.page → ⊥) done these (All-weaker (λ k. IsTaken (e ∷ more) k.page → ⊥) (λ k. IsTaken more k.page → ⊥) (λ k never taken. never (inr taken)) done apart)
          (All-weaker (λ k. IsPageOf e k.page) (λ k. IsTaken more k.page → ⊥) (λ k mine taken. rest_apart.0 k.page mine taken) these lie);
      images = λ told. subst R (sym (ranges_append done these)) (changes_join (page_ranges done) (page_ranges these) (so_far.images told) (changes told));
      wrote = λ told. wrote_more done these e old.holds mid.holds new.holds from_e (part_outside e bytes m s mid.holds.pages new.holds.pages long (wrote told).elsewhere) (so_far.wrote told) (wrote told);
      inside = All-append (λ k. k.page * 4096 + length k.bytes ≤ new.reach.pages) done these (reach_longer mid.reach.pages new.reach.pages done longer so_far.inside) inside;
    }

-- those that were written change only what all may, and so do those of one call more, whatever came of it
pub some_changed : (tells : Type 0) (old mid new : DiskState) (n most : ℕ) (rest : List Extent) (left after all these : List Kept) → left ≡ these ++ after → (tells → ChangesOnly (page_ranges these) mid new)
    → AreWrittenSome tells old mid n most rest left all → tells → ChangesOnly (page_ranges all) old new
some_changed tells old mid new n most rest left after all these next changes so_far told =
    let done = so_far.done in
    let P : List Kept → Type 0 = λ ks. ChangesOnly (page_ranges ks) old new in
    let R : List Range → Type 0 = λ rs. ChangesOnly rs old new in
    let is : (done ++ these) ++ after ≡ all = append_assoc done these after ∙ ap (λ (l : List Kept). done ++ l) (sym next) ∙ so_far.is in
    subst P is (subst R (sym (ranges_append (done ++ these) after)) (changes_more (page_ranges (done ++ these)) (page_ranges after)
    (subst R (sym (ranges_append done these)) (changes_join (page_ranges done) (page_ranges these) (so_far.images told) (changes told)))))

-- nothing is left
pub some_done : (tells : Type 0) (old new : DiskState) (n most : ℕ) (rest : List Extent) (left all : List Kept) → left ≡ [] → (so_far : AreWrittenSome tells old new n most rest left all) → so_far.done ≡ all
some_done tells old new n most rest left all none so_far = sym (append-nil so_far.done) ∙ ap (λ (l : List Kept). so_far.done ++ l) (sym none) ∙ so_far.is

-- ---- what is left of the places from one on

-- so many pages from one on, of the places from this one on
abbrev pub left_from : List Place → List (List ℕ) → ℕ → ℕ → ℕ → List Kept
left_from places all k skip most = take most (drop skip (pages_of (pieces_from places all k)))

-- the extents from one on
abbrev pub rest_from : List Place → ℕ → List Extent
rest_from places k = extents (drop k places)

pub rest_next : (places : List Place) (k : ℕ) (x : Place) → k < length places → rest_from places k ≡ (get_or places k x).extent ∷ rest_from places (k + 1)
rest_next places k x below = ap extents (drop-cons places k x (omega (arith, below))) ∙ ap (λ (i : ℕ). (get_or places k x).extent ∷ extents (drop i places)) (sym (add-one k))

pub left_next : (places : List Place) (all : List (List ℕ)) (k skip most : ℕ) (x : Place) (at bytes : List ℕ) → AllZip IsFor places all → k < length places → at ≡ get_or all k at → bytes ≡ at
    → left_from places all k skip most ≡ take most (drop skip (pieces (get_or places k x).extent.first bytes))
    ++ left_from places all (k + 1) (skip - pages_for (length bytes)) (most - length (take most (drop skip (pieces (get_or places k x).extent.first bytes))))
left_next places all k skip most x at bytes each below same seen =
    let e = (get_or places k x).extent in
    let front = pieces e.first bytes in
    let behind = pages_of (pieces_from places all (k + 1)) in
    let next : pages_of (pieces_from places all k) ≡ front ++ behind = ap pages_of (pieces_at places all k x at bytes each below same seen) in
    let size : length front ≡ pages_for (length bytes) = length-map-range_with_len (piece e.first bytes) 0 (pages_for (length bytes)) in
    let n : ℕ = most - length (take most (drop skip front)) in
    ap (λ (l : List Kept). take most (drop skip l)) next ∙ cut most skip front behind ∙ ap (λ (i : ℕ). take most (drop skip front) ++ take n (drop (skip - i) behind)) size

pub left_end : (places : List Place) (all : List (List ℕ)) (k skip most : ℕ) → length places ≤ k → left_from places all k skip most ≡ []
left_end places all k skip most ends =
    ap (λ (ps : List Piece). take most (drop skip (pages_of ps))) (pieces_end places all k ends) ∙ ap (take most) (drop_all skip [] (omega arith)) ∙ take_all most [] (omega arith)

-- where no more pages are asked for, none is left
pub left_none : (places : List Place) (all : List (List ℕ)) (k skip most : ℕ) → most ≡ 0 → left_from places all k skip most ≡ []
left_none places all k skip most none = ap (λ (n : ℕ). take n (drop skip (pages_of (pieces_from places all k)))) none

pub left_same : (places : List Place) (all : List (List ℕ)) (k skip skip' most most' : ℕ) → skip ≡ skip' → most ≡ most' → left_from places all k skip most ≡ left_from places all k skip' most'
left_same places all k skip skip' most most' one two = ap (λ (s : ℕ). left_from places all k s most) one ∙ ap (λ (m : ℕ). left_from places all k skip' m) two

front_cons : (b : List ℕ) (all : List (List ℕ)) (k : ℕ) → pages_in_front (b ∷ all) (suc k) ≡ pages_for (length b) + pages_in_front all k
front_cons b all k = sum_by-cons (λ (bytes : List ℕ). pages_for (length bytes)) b (take k all)

pages_behind : (places : List Place) (all : List (List ℕ)) (k s : ℕ) → AllZip IsFor places all → k ≤ length places → pages_in_front all k ≤ s
    → drop (s - pages_in_front all k) (pages_of (pieces_from places all k)) ≡ drop s (pages_of (pieces_of places all))
pages_behind places all zero s each within before = let none : s - pages_in_front all 0 ≡ s = omega arith in ap (λ (i : ℕ). drop i (pages_of (pieces_of places all))) none
pages_behind [] all (suc k) s each within before = absurd (omega (arith, within))
pages_behind (p ∷ places) [] (suc k) s each within before = absurd each
pages_behind (p ∷ places) (b ∷ all) (suc k) s each within before =
    let n : ℕ = pages_for (length b) in
    let f : ℕ = pages_in_front all k in
    let front = pieces p.extent.first b in
    let behind = pages_of (pieces_of places all) in
    let size : length front ≡ n = length-map-range_with_len (piece p.extent.first b) 0 n in
    let both : pages_in_front (b ∷ all) (suc k) ≡ n + f = front_cons b all k in
    let less : s - pages_in_front (b ∷ all) (suc k) ≡ (s - n) - f = omega (arith, both) in
    let none : drop s front ≡ [] = drop_all s front (omega (arith, size, both, before)) in
    ap (λ (i : ℕ). drop i (pages_of (pieces_from places all k))) less ∙ pages_behind places all k (s - n) each.1 (omega (arith, within)) (omega (arith, both, before))
    ∙ ap (λ (i : ℕ). drop (s - i) behind) (sym size) ∙ ap (λ (l : List Kept). l ++ drop (s - length front) behind) (sym none) ∙ sym (drop_joined s front behind)

-- what is left from a place on, where those in front of it have no page that is asked for
pub left_at : (places : List Place) (all : List (List ℕ)) (k from most : ℕ) → AllZip IsFor places all → k ≤ length places → pages_in_front all k ≤ from
    → left_from places all k (from - pages_in_front all k) most ≡ left_from places all 0 from most
left_at places all k from most each within before = ap (take most) (pages_behind places all k from each within before)

pub rest_apart : (places : List Place) (k : ℕ) → AreApart (extents places) → AreApart (rest_from places k)
rest_apart places zero apart = apart
rest_apart [] (suc k) apart = apart
rest_apart (p ∷ places) (suc k) apart = rest_apart places k apart.1

-- the starts of places don't fall
front_rises : (all : List (List ℕ)) (i j : ℕ) → i ≤ j → pages_in_front all i ≤ pages_in_front all j
front_rises all zero j le = omega arith
front_rises all (suc i) zero le = absurd (omega (arith, le))
front_rises [] (suc i) (suc j) le = omega arith
front_rises (b ∷ all) (suc i) (suc j) le = omega (arith, front_cons b all i, front_cons b all j, front_rises all i j (omega (arith, le)))

pub starts_rise : (starts : List ℕ) (all : List (List ℕ)) → AreStarts starts all → IsNonDecreasingBy (λ n. n) starts
starts_rise starts all are i j d le below =
    omega (arith, are.as_many, are.each i d (omega (arith, le, below, are.as_many)), are.each j d (omega (arith, below, are.as_many)), front_rises all i j le)

-- how many were written
pub some_counted : (tells : Type 0) (old new : DiskState) (n most : ℕ) (rest : List Extent) (left all : List Kept) → left ≡ [] → AreWrittenSome tells old new n most rest left all → most - n ≡ length all
some_counted tells old new n most rest left all none so_far = omega (arith, so_far.counted, ap (λ (ks : List Kept). length ks) (some_done tells old new n most rest left all none so_far))

-- an item that is there doesn't depend on what stands for one that isn't
pub same_at : (places : List Place) (k : ℕ) (a b : Place) → k < length places → get_or places k a ≡ get_or places k b
same_at [] k a b within = absurd (omega (arith, within))
same_at (p ∷ places) zero a b within = refl
same_at (p ∷ places) (suc k) a b within = same_at places k a b (omega (arith, within))

pub places_apart : (store : PagesState) (places : List Place) (live : List Extent) → HasTaken store (extents places ++ live) → AreApart (extents places)
places_apart store places live has = apart_left (extents places) live has.apart

-- what is written of sublists that were prepared is written in their places
pub paged_untouched : (places : List Place) (all : List (List ℕ)) (k : ℕ) → AllZip IsFor places all → IsUntouched (map range_of (extents places)) k → IsUntouched (page_ranges (pages_of (pieces_of places all))) k
paged_untouched [] all k each un = tt
paged_untouched (p ∷ places) [] k each un = absurd each
paged_untouched (p ∷ places) (b ∷ all) k each un =
    let front = pieces p.extent.first b in
    let behind = pages_of (pieces_of places all) in
    subst (λ (rs : List Range). IsUntouched rs k) (sym (ranges_append front behind))
    (untouched_join (page_ranges front) (page_ranges behind) k (pages_untouched p.extent b k (sym each.0.size) (un.0, tt)) (paged_untouched places all k each.1 un.1))

-- so some pages of them change only what the places have
pub some_outside : (places : List Place) (all : List (List ℕ)) (m s : ℕ) (was pages : List ℕ) → AllZip IsFor places all → SameOutside (page_ranges (take m (drop s (pages_of (pieces_of places all))))) was pages
    → SameOutside (map range_of (extents places)) was pages
some_outside places all m s was pages each same =
    same_wider (page_ranges (take m (drop s (pages_of (pieces_of places all))))) (map range_of (extents places)) was pages
    (λ k un. untouched_part (λ x. record { at = x.page * 4096; count = length x.bytes }) m s (pages_of (pieces_of places all)) k (paged_untouched places all k each un)) same

-- ---- all pages of places that were written

-- ---- pages that were written before stay where others are written

-- outside of a page's own place its bytes aren't touched
other_page : (x : Kept) (ys : List Kept) (i : ℕ) → All (λ y. (x.page ≡ y.page → ⊥) × (length y.bytes ≤ 4096)) ys → x.page * 4096 ≤ i → i < x.page * 4096 + 4096 → IsUntouched (page_ranges ys) i
other_page x [] i all low high = tt
other_page x (y ∷ ys) i all low high =
    let P : Kept → Type 0 = λ y. (x.page ≡ y.page → ⊥) × (length y.bytes ≤ 4096) in
    let mine = All-head P y ys all in (
      elim (cases_lt i (y.page * 4096)) [
        | inl before ↦ inl before
        | inr from ↦ elim (cases_lt x.page (y.page + 1)) [
          | inl same ↦ absurd (mine.0 (omega (arith, same, from, high)))
          | inr behind ↦ inr (omega (arith, behind, mine.1, low))
        ]
      ],
      other_page x ys i (All-tail P y ys all) low high,
    )

-- what a page holds stays where only others are written
page_stays : (x : Kept) (ys : List Kept) (was pages : List ℕ) → All (λ y. (x.page ≡ y.page → ⊥) × (length y.bytes ≤ 4096)) ys → SameOutside (page_ranges ys) was pages → IsHeld was x → IsHeld pages x
page_stays x ys was pages others same held =
    let at : ℕ = x.page * 4096 in
    let n : ℕ = length x.bytes in
    record {
      within = held.within;
      bytes = held.bytes ∙ sym (part_stays (page_ranges ys) at n was pages (λ i low high. other_page x ys i others low (omega (arith, high, held.within)))
          (λ some. omega (arith, some, ap (λ (l : List ℕ). length l) held.bytes, length-take n (drop at was), length-drop at was)) same);
    }

pub pages_stay : (xs ys : List Kept) (was pages : List ℕ) → All (λ x. All (λ y. (x.page ≡ y.page → ⊥) × (length y.bytes ≤ 4096)) ys) xs → SameOutside (page_ranges ys) was pages → StandsFor xs was → StandsFor xs pages
pages_stay [] ys was pages differ same stands = All-nil (IsHeld pages)
pages_stay (x ∷ xs) ys was pages differ same stands =
    let D : Kept → Type 0 = λ x. All (λ y. (x.page ≡ y.page → ⊥) × (length y.bytes ≤ 4096)) ys in
    All-cons (IsHeld pages) x xs (page_stays x ys was pages (All-head D x xs differ) same (All-head (IsHeld was) x xs stands))
    (pages_stay xs ys was pages (All-tail D x xs differ) same (All-tail (IsHeld was) x xs stands))

pub all_left : {X : Type 0} (P : X → Type 0) (xs ys : List X) → All P (xs ++ ys) → All P xs
all_left P xs ys all i d within = subst P (get_or_append_left xs ys d i within) (all i d (omega (arith, within, length-append xs ys)))

pub all_right : {X : Type 0} (P : X → Type 0) (xs ys : List X) → All P (xs ++ ys) → All P ys
all_right P xs ys all i d within = subst P (get_or-append-add xs ys i d) (all (length xs + i) d (omega (arith, within, length-append xs ys)))

-- each page is one of the places'
pub pages_lie : (places : List Place) (all : List (List ℕ)) → AllZip IsFor places all → All (λ k. IsTaken (extents places) k.page) (pages_of (pieces_of places all))
pages_lie [] all each = All-nil (λ k. IsTaken (extents []) k.page)
pages_lie (p ∷ places) [] each = absurd each
pages_lie (p ∷ places) (b ∷ all) each =
    All-append (λ k. IsTaken (extents (p ∷ places)) k.page) (pieces p.extent.first b) (pages_of (pieces_of places all))
    (All-weaker (λ k. IsPageOf p.extent k.page) (λ k. IsTaken (extents (p ∷ places)) k.page) (λ k mine. inl mine) (pieces p.extent.first b) (pieces_lie p.extent b (sym each.0.size)))
    (All-weaker (λ k. IsTaken (extents places) k.page) (λ k. IsTaken (extents (p ∷ places)) k.page) (λ k taken. inr taken) (pages_of (pieces_of places all)) (pages_lie places all each.1))

-- and has at most a page's bytes
pages_short : (places : List Place) (all : List (List ℕ)) → All (λ k. length k.bytes ≤ 4096) (pages_of (pieces_of places all))
pages_short [] all = All-nil (λ (k : Kept). length k.bytes ≤ 4096)
pages_short (p ∷ places) [] = All-nil (λ (k : Kept). length k.bytes ≤ 4096)
pages_short (p ∷ places) (b ∷ all) =
    All-append (λ k. length k.bytes ≤ 4096) (pieces p.extent.first b) (pages_of (pieces_of places all))
    (all_pieces (λ k. length k.bytes ≤ 4096) p.extent.first b (λ i below. omega (arith, piece_long p.extent.first b i))) (pages_short places all)

-- no page comes twice
pages_once : (places : List Place) (all : List (List ℕ)) (i j : ℕ) (d : Kept) → AllZip IsFor places all → AreApart (extents places) → i < j → j < length (pages_of (pieces_of places all))
    → (get_or (pages_of (pieces_of places all)) i d).page ≡ (get_or (pages_of (pieces_of places all)) j d).page → ⊥
pages_once [] all i j d each apart before within same = omega (arith, within)
pages_once (p ∷ places) [] i j d each apart before within same = absurd each
pages_once (p ∷ places) (b ∷ all) i j d each apart before within same =
    let front = pieces p.extent.first b in
    let behind = pages_of (pieces_of places all) in
    let n : ℕ = pages_for (length b) in
    let long : length front ≡ n = length-map-range_with_len (piece p.extent.first b) 0 n in
    let joined : length (front ++ behind) ≡ length front + length behind = length-append front behind in
    elim (cases_lt i (length front)) [
      | inl first ↦ elim (cases_lt j (length front)) [
        | inl also ↦ (
            let one : get_or (front ++ behind) i d ≡ piece p.extent.first b i = get_or_append_left front behind d i first ∙ get_or-map-range_with_len (piece p.extent.first b) 0 n i i d (omega (arith, first, long)) (omega arith) in
            let other : get_or (front ++ behind) j d ≡ piece p.extent.first b j = get_or_append_left front behind d j also ∙ get_or-map-range_with_len (piece p.extent.first b) 0 n j j d (omega (arith, also, long)) (omega arith) in
            omega (arith, before, ap (λ (k : Kept). k.page) (sym one) ∙ same ∙ ap (λ (k : Kept). k.page) other))
        | inr later ↦ (
            let r : ℕ = j - length front in
            let at : j ≡ length front + r = omega (arith, later) in
            let below : r < length behind = omega (arith, at, within, joined) in
            let mine : IsPageOf p.extent (get_or (front ++ behind) i d).page = subst (λ (k : Kept). IsPageOf p.extent k.page) (sym (get_or_append_left front behind d i first)) (pieces_lie p.extent b (sym each.0.size) i d first) in
            let theirs : IsTaken (extents places) (get_or (front ++ behind) j d).page =
            subst (λ (k : Kept). IsTaken (extents places) k.page) (sym (ap (λ x. get_or (front ++ behind) x d) at ∙ get_or-append-add front behind r d)) (pages_lie places all each.1 r d below) in
            apart.0 (get_or (front ++ behind) j d).page (subst (λ (x : ℕ). IsPageOf p.extent x) same mine) theirs)
      ]
      | inr past ↦ (
          let q : ℕ = i - length front in
          let r : ℕ = j - length front in
          let at_i : i ≡ length front + q = omega (arith, past) in
          let at_j : j ≡ length front + r = omega (arith, past, before) in
          let one : get_or (front ++ behind) i d ≡ get_or behind q d = ap (λ x. get_or (front ++ behind) x d) at_i ∙ get_or-append-add front behind q d in
          let other : get_or (front ++ behind) j d ≡ get_or behind r d = ap (λ x. get_or (front ++ behind) x d) at_j ∙ get_or-append-add front behind r d in
          pages_once places all q r d each.1 apart.1 (omega (arith, at_i, at_j, before)) (omega (arith, at_j, within, joined)) (ap (λ (k : Kept). k.page) (sym one) ∙ same ∙ ap (λ (k : Kept). k.page) other))
    ]

same_page : (ks : List Kept) (i : ℕ) (c d : Kept) → i < length ks → get_or ks i c ≡ get_or ks i d
same_page [] i c d within = absurd (omega (arith, within))
same_page (k ∷ ks) zero c d within = refl
same_page (k ∷ ks) (suc i) c d within = same_page ks i c d (omega (arith, within))

-- so those in front differ from those behind
pages_differ : (places : List Place) (all : List (List ℕ)) (m s : ℕ) → AllZip IsFor places all → AreApart (extents places)
    → All (λ x. All (λ y. (x.page ≡ y.page → ⊥) × (length y.bytes ≤ 4096)) (take m (drop s (pages_of (pieces_of places all))))) (take s (pages_of (pieces_of places all)))
pages_differ places all m s each apart i d within j c low =
    let pages = pages_of (pieces_of places all) in
    let short_i : i < s = omega (arith, within, length-take s pages) in
    let there_i : i < length pages = omega (arith, within, length-take s pages) in
    let short_j : j < m = omega (arith, low, length-take m (drop s pages)) in
    let there_j : s + j < length pages = omega (arith, low, length-take m (drop s pages), length-drop s pages) in
    let one : get_or (take s pages) i d ≡ get_or pages i c = get_or-take s pages i d short_i ∙ same_page pages i d c there_i in
    let other : get_or (take m (drop s pages)) j c ≡ get_or pages (s + j) c = get_or-take m (drop s pages) j c short_j ∙ get_or-drop s pages j c in (
      (λ same. pages_once places all i (s + j) c each apart (omega (arith, short_i)) there_j (ap (λ (k : Kept). k.page) (sym one) ∙ same ∙ ap (λ (k : Kept). k.page) other)),
      subst (λ (k : Kept). length k.bytes ≤ 4096) (sym other) (pages_short places all (s + j) c there_j),
    )

-- What is kept and what was written before go on being as reads give them, and so are the pages that are written now.
pub stint_cached : (cache : List Kept) (places : List Place) (all : List (List ℕ)) (m s : ℕ) (old new : Bytes) → AllZip IsFor places all → AreApart (extents places)
    → All (λ (k : Kept). IsTaken (extents places) k.page → ⊥) cache → WrotePages (take m (drop s (pages_of (pieces_of places all)))) old new
    → StandsFor (cache ++ take s (pages_of (pieces_of places all))) old.pages → StandsFor (cache ++ take (s + m) (pages_of (pieces_of places all))) new.pages
stint_cached cache places all m s old new each apart unkept wrote stands =
    let pages = pages_of (pieces_of places all) in
    let these = take m (drop s pages) in
    let was = all_left (IsHeld old.pages) cache (take s pages) stands in
    let before = all_right (IsHeld old.pages) cache (take s pages) stands in
    let outside = some_outside places all m s old.pages new.pages each wrote.elsewhere in
    All-append (IsHeld new.pages) cache (take (s + m) pages) (writes-stand cache (extents places) old.pages new.pages unkept outside was)
    (subst (λ (ks : List Kept). StandsFor ks new.pages) (sym (take-add s m pages))
    (All-append (IsHeld new.pages) (take s pages) these (pages_stay (take s pages) these old.pages new.pages (pages_differ places all m s each apart) wrote.elsewhere before) wrote.each))

pub counted_still : {T E : Type 0} (result : Result T E) (cache : List Kept) (places : List Place) (all : List (List ℕ)) (m s : ℕ) (old new : Bytes) → AllZip IsFor places all → AreApart (extents places)
    → All (λ (k : Kept). IsTaken (extents places) k.page → ⊥) cache → OnOk result (WrotePages (take m (drop s (pages_of (pieces_of places all)))) old new)
    → StandsFor (cache ++ take s (pages_of (pieces_of places all))) old.pages → OnOk result (StandsFor (cache ++ take (s + m) (pages_of (pieces_of places all))) new.pages)
counted_still result cache places all m s old new each apart unkept wrote stands =
    on_ok_weaker result (λ (w : WrotePages (take m (drop s (pages_of (pieces_of places all)))) old new). stint_cached cache places all m s old new each apart unkept w stands) wrote
