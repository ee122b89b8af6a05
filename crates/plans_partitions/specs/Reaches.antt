-- How far back admissible segments reach.
use Rattle.std.specs.Prelude.{◌≡◌, ◌↔◌, ℕ, ◌<◌, ◌≤◌, List, length, slice_index}
use Rattle.std.specs.List.Sorted.{IsNonDecreasing}
use Rattle.base_types.specs.declared.fraction.Fraction.{Fraction}
use Rattle.plans_partitions.specs.Counts.{Counts, AdmissibleBetween}

-- The admissible segments to boundary k are those from boundary low and from each later one.
pub record IsReach (table : Counts) (factor : Fraction) (k low : ℕ) : Type 0 where
  pub before : low < k
  pub each : (j : ℕ) → j < k → AdmissibleBetween table factor j k ↔ (low ≤ j)

-- The reaches of the boundaries before n, which never fall; that of boundary 0 is 0.
pub record AreReaches (table : Counts) (factor : Fraction) (lows : List ℕ) (n : ℕ) : Type 0 where
  pub long : length lows ≡ n
  pub starts : slice_index lows 0 ≡ 0
  pub each : (k : ℕ) → 0 < k → k < n → IsReach table factor k (slice_index lows k)
  pub rising : IsNonDecreasing lows

-- No segment to boundary k that begins before boundary low is admissible.
abbrev pub NoneBefore : Counts → Fraction → ℕ → ℕ → Type 0
NoneBefore table factor k low = (j : ℕ) → j < low → AdmissibleBetween table factor j k → ⊥
