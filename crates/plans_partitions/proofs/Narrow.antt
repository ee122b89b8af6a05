-- A partition at boundaries has no more cuts than there are boundaries.
use Rattle.std.proofs.Common.{arith, ℕ, suc, ◌+◌, ◌<◌, ◌≤◌, List, [], ◌∷◌, length, slice_index, All, Contains}
use Rattle.std.specs.List.Sorted.{IsStrictlyIncreasing}
use Rattle.std.proofs.lemmas.List.Elements.{All-head, All-tail}
use Rattle.base_types.specs.declared.posting.Posting.{Posting}
use Rattle.base_types.specs.declared.fraction.Fraction.{Fraction}
use Rattle.plans_partitions.specs.Partitions.{Covers}
use Rattle.plans_partitions.specs.Laws.{PartitionsAreNarrow}
use Rattle.plans_partitions.proofs.Places.{place_of, place_below}
use Rattle.plans_partitions.proofs.Ordering.{Rise, increasing}

covers_rise : (list : List Posting) (factor : Fraction) (cuts : List ℕ) (f end : ℕ) → Covers list factor f cuts end → Rise (suc f) cuts
covers_rise list factor [] f end c = tt
covers_rise list factor (g ∷ cuts) f end c = (c.0, covers_rise list factor cuts g end c.2)

-- rising numbers among the times from a place on are no more than these
few : (times : List ℕ) → IsStrictlyIncreasing times → (xs : List ℕ) (j : ℕ) → j < length times → Rise (suc (slice_index times j)) xs → All (Contains times) xs → j + suc (length xs) ≤ length times
few times up [] j l r a = omega (arith, l)
few times up (x ∷ xs) j l r a =
    let (k, m, e) = place_of times x (All-head (Contains times) x xs a) in
    let after : slice_index times j < slice_index times k = omega (arith, r.0, e) in
    omega (arith, place_below times up j k l after, few times up xs k m (rw e r.1) (All-tail (Contains times) x xs a))

pub narrow : PartitionsAreNarrow
narrow list factor horizon times f cuts end b first inside c =
    let rises : Rise (suc f) cuts = covers_rise list factor cuts f end c in
    let (k, l, e) = place_of times f ((b.each f).1 first) in
    (increasing f (f ∷ cuts) (omega arith, rises), omega (arith, few times b.ascending cuts k l (rw e rises) (λ i d m. (b.each _).1 (inside i d m))))
