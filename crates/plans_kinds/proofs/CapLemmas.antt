-- Sizes between any times by those between boundaries.
use Rattle.std.specs.Prelude.{◌≡◌, ◌⊎◌, ℕ, ◌-◌, ◌+◌, ◌<◌, ◌≤◌, ◌&&◌, nat_lt, List, slice_index, Contains}
use Rattle.std.specs.List.Sorted.{IsStrictlyIncreasing}
use Rattle.std.proofs.Common.{arith, ap}
use Rattle.std.proofs.lemmas.Bool.Decides.{nat_tests}
use Rattle.base_types.specs.declared.posting.Posting.{Posting}
use Rattle.lists_postings.specs.Lists.{meets}
use Rattle.lists_postings.specs.Sizes.{size}
use Rattle.plans_partitions.specs.Boundaries.{AreBoundaries}
use Rattle.plans_partitions.proofs.Places.{apart}
use Rattle.plans_partitions.proofs.Sums.{bit, sum_same}
use Rattle.plans_partitions.proofs.Tables.{ends_in}
use Rattle.plans_kinds.specs.Steps.{IsNext}

-- no time is between
beside : (times : List ℕ) → IsStrictlyIncreasing times → (t k x : ℕ) → IsNext times t k → Contains times x → (x ≤ slice_index times (k - 1)) ⊎ (slice_index times k ≤ x)
beside times up t k x next c =
    let e : slice_index times (k - 1 + 1) ≡ slice_index times k = ap (slice_index times) (omega (arith, next.behind)) in
    rw e at (apart times up (k - 1) x (omega (arith, next.behind, next.inside)) c)

-- a posting that begins and ends at such times has a time in [f, g) where it has one in [a, b), which is wider
meets_same : (x y f g a b c d : ℕ) → a ≤ f → f < c → d < g → g ≤ b → (x ≤ d) ⊎ (b ≤ x) → (y ≤ a) ⊎ (c ≤ y) → bit (nat_lt x g && nat_lt f y) ≡ bit (nat_lt x b && nat_lt a y)
meets_same x y f g a b c d af fc dg gb h k = grind (arith, nat_tests)

-- So a segment has the size of the one between the boundaries around it.
pub size_around : (list : List Posting) (horizon : ℕ) (times : List ℕ) → AreBoundaries list horizon times → (f g j k : ℕ) → f < g → IsNext times f j → IsNext times (g - 1) k
    → size f g list ≡ size (slice_index times (j - 1)) (slice_index times k) list
size_around list horizon times b f g j k lt from to =
    sum_same (λ p. bit (meets f g p)) (λ p. bit (meets (slice_index times (j - 1)) (slice_index times k) p)) list (λ i d l.
    let at = ends_in list horizon times b i d l in
    meets_same _ _ f g _ _ _ _ from.to from.after (omega (arith, to.to)) (omega (arith, to.after)) (beside times b.ascending (g - 1) k _ to at.0) (beside times b.ascending f j _ from at.1))
