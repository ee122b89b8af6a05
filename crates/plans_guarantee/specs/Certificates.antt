-- Certificates that a partition is least.
use Rattle.std.specs.Prelude.{◌≡◌, ℕ, ◌+◌, ◌-◌, ◌<◌, ◌≤◌, List, drop, length, slice_index, All}
use Rattle.base_types.specs.declared.posting.Posting.{Posting}
use Rattle.base_types.specs.declared.fraction.Fraction.{Fraction}
use Rattle.lists_postings.specs.Sizes.{size}
use Rattle.plans_partitions.specs.Boundaries.{IsBoundary, AreBoundaries}
use Rattle.plans_partitions.specs.Partitions.{IsAdmissible, Covers, IsLeast, IsFitting, AreBest, space}

-- The numbers pi, one for each boundary, certify the partition from the first boundary with these later cuts: its cuts
-- are boundaries, it is admissible, and pi starts at 0, grows over no admissible segment by more than the
-- segment's size, and ends at the partition's space.
pub record Certifies (list : List Posting) (factor : Fraction) (times pi cuts : List ℕ) (horizon : ℕ) : Type 0 where
  pub times_are : AreBoundaries list horizon times
  pub early : All (λ p. p.span.to ≤ horizon) list
  pub at_boundaries : All (IsBoundary list horizon) cuts
  pub covers : Covers list factor (slice_index times 0) cuts horizon
  pub long : length pi ≡ length times
  pub starts : slice_index pi 0 ≡ 0
  pub edges : (j k : ℕ) → j < k → k < length times → IsAdmissible list factor (slice_index times j) (slice_index times k)
      → slice_index pi k ≤ slice_index pi j + size (slice_index times j) (slice_index times k) list
  pub total : slice_index pi (length times - 1) ≡ space list (slice_index times 0) cuts

-- The same for a partition with all its cuts in one list.
pub record CertifiesCuts (list : List Posting) (factor : Fraction) (times pi cuts : List ℕ) (horizon : ℕ) : Type 0 where
  pub fits : IsFitting times cuts
  pub certifies : Certifies list factor times pi (drop 1 cuts) horizon

-- A certified partition is least: no admissible partition from the first boundary to the horizon, whatever its
-- cut times, takes less space.
abbrev pub CertificateProvesLeast : Type 0
CertificateProvesLeast = (list : List Posting) (factor : Fraction) (times pi cuts : List ℕ) (horizon : ℕ)
    → Certifies list factor times pi cuts horizon → IsLeast list factor (slice_index times 0) cuts horizon

-- The least spaces up to the boundaries certify each least partition: so who is shown these numbers with a least partition can check it.
abbrev pub BestNumbersCertify : Type 0
BestNumbersCertify =
    (list : List Posting) (factor : Fraction) (times pi cuts : List ℕ) (horizon : ℕ) → All (λ p. p.span.to ≤ horizon) list
    → AreBest list factor horizon times pi
    → IsLeast list factor (slice_index times 0) cuts horizon → Certifies list factor times pi cuts horizon
