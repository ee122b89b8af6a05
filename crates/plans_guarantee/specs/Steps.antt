-- The steps of planning, by the counts of a table.
use Rattle.std.specs.Prelude.{◌≡◌, ℕ, ◌+◌, ◌*◌, ◌^◌, ◌<◌, ◌≤◌, List, [], ◌∷◌, map, length, slice_index}
use Rattle.base_types.specs.declared.fraction.Fraction.{Fraction}
use Rattle.plans_partitions.specs.Counts.{Counts, AdmissibleBetween, size_between}

-- left begins a last segment to boundary k that is admissible, and no admissible one costs less with the number at its left; so much is the number there.
pub record IsBestLeft (table : Counts) (factor : Fraction) (pi : List ℕ) (k left : ℕ) : Type 0 where
  pub before : left < k
  pub admissible : AdmissibleBetween table factor left k
  pub none_better : (j : ℕ) → j < k → AdmissibleBetween table factor j k
      → slice_index pi left + size_between table left k ≤ slice_index pi j + size_between table j k
  pub takes : slice_index pi k ≡ slice_index pi left + size_between table left k

-- The numbers at the boundaries before n, and the left ends of their best last segments.
pub record AreSettled (table : Counts) (factor : Fraction) (pi lefts : List ℕ) (n : ℕ) : Type 0 where
  pub pi_long : length pi ≡ n
  pub lefts_long : length lefts ≡ n
  pub starts : slice_index pi 0 ≡ 0
  pub best : (k : ℕ) → 0 < k → k < n → IsBestLeft table factor pi k (slice_index lefts k)
  pub small : (k : ℕ) → k < n → slice_index pi k ≤ k * 2 ^ 38

-- The places lead on from one to the end, each the left end of the next.
abbrev pub LeadsBy : List ℕ → ℕ → List ℕ → ℕ → Type 0
LeadsBy lefts at [] end = at ≡ end
LeadsBy lefts at (p ∷ places) end = (slice_index lefts p ≡ at) × (at < p) × (p < length lefts) × LeadsBy lefts p places end

-- The times are those of places that lead from one to the end.
pub record IsWay (times lefts : List ℕ) (at end : ℕ) (cuts : List ℕ) : Type 0 where
  pub places : List ℕ
  pub are : cuts ≡ map (λ p. slice_index times p) (at ∷ places)
  pub leads : LeadsBy lefts at places end

-- From one place to the end others lead, and with it they are so many.
pub record HasCuts (lefts : List ℕ) (at end count : ℕ) : Type 0 where
  pub places : List ℕ
  pub leads : LeadsBy lefts at places end
  pub many : count ≡ length places + 1
