-- The bytes of an extent stay where only extents apart from it were written.
use Rattle.std.proofs.Common.{◌≡◌, ℕ, ◌+◌, ◌*◌, ◌/◌, ◌<◌, ◌≤◌, List, [], ◌∷◌, length, take, drop, map, inl, inr, sym, ◌∙◌, arith}
use Rattle.std.proofs.lemmas.Bool.{cases_lt}
use Rattle.std.proofs.lemmas.List.{length-take, length-drop, get_or-take, get_or-drop, ext_get_or}
use Rattle.base_types.specs.declared.extent.Extent.{Extent}
use Rattle.machine_model.specs.Images.{IsUntouched}
use Rattle.machine_model.specs.declared.range.Range.{Range}
use Rattle.pages_area.specs.Ranges.{SameOutside, range_of, bytes_in}
use Rattle.pages_area.specs.Runs.{IsTaken}
use Rattle.pages_area.specs.Taken.{IsApartFrom}
pub use Rattle.pages_area.proofs.CountLemmas.{taken_left, taken_right, AreApartFrom, apart_left, apart_parts}

-- a byte of a page that isn't among those of extents lies in none of their ranges
pub untouched : (others : List Extent) (page k : ℕ) → (IsTaken others page → ⊥) → page * 4096 ≤ k → k < page * 4096 + 4096 → IsUntouched (map range_of others) k
untouched [] page k apart low high = tt
untouched (o ∷ others) page k apart low high = (
  elim (cases_lt k (o.first * 4096)) [
    | inl before ↦ inl before
    | inr from ↦ elim (cases_lt k (o.first * 4096 + o.bytes)) [
      | inl within ↦ absurd (apart (inl (omega (arith, low, high, from), omega (arith, low, high, within))))
      | inr behind ↦ inr behind
    ]
  ],
  untouched others page k (λ taken. apart (inr taken)) low high,
)

part_long : (at n : ℕ) (pages : List ℕ) → (0 < n → at + n ≤ length pages) → length (take n (drop at pages)) ≡ n
part_long at n pages inside = elim (cases_lt 0 n) [
  | inl some ↦ omega (arith, length-take n (drop at pages), length-drop at pages, inside some)
  | inr none ↦ omega (arith, length-take n (drop at pages), none)
]

-- bytes in a row stay where only ranges were written that have none of them
pub part_stays : (ranges : List Range) (at n : ℕ) (was pages : List ℕ) → ((k : ℕ) → at ≤ k → k < at + n → IsUntouched ranges k) → (0 < n → at + n ≤ length was) → SameOutside ranges was pages
    → take n (drop at pages) ≡ take n (drop at was)
part_stays ranges at n was pages apart inside same =
    let one = part_long at n pages (λ some. omega (arith, inside some, same.no_shorter)) in
    ext_get_or 0 (take n (drop at pages)) (take n (drop at was)) (one ∙ sym (part_long at n was inside)) (λ k within.
    let short : k < n = omega (arith, within, one) in
    get_or-take n (drop at pages) k 0 short ∙ get_or-drop at pages k 0
    ∙ same.same (at + k) (omega (arith, short, inside (omega (arith, short)))) (apart (at + k) (omega arith) (omega (arith, short)))
    ∙ sym (get_or-take n (drop at was) k 0 short ∙ get_or-drop at was k 0))

-- the bytes of an extent do, where those are of extents apart from it
pub bytes_stay : (e : Extent) (others : List Extent) (was pages : List ℕ) → IsApartFrom e others → (0 < e.bytes → e.first * 4096 + e.bytes ≤ length was)
    → SameOutside (map range_of others) was pages → bytes_in e pages ≡ bytes_in e was
bytes_stay e others was pages apart inside same = part_stays (map range_of others) (e.first * 4096) e.bytes was pages
    (λ k low high. untouched others (k / 4096) k (apart (k / 4096) (omega (arith, low), omega (arith, high))) (omega arith) (omega arith)) inside same
