-- A partition that may be chosen has at most 127 segments.
use Rattle.std.specs.Prelude.{◌≡◌, ◌⊎◌, ℕ, ◌+◌, ◌-◌, ◌*◌, ◌<◌, ◌≤◌, min, List, [], ◌∷◌, length, slice_index, All}
use Rattle.std.specs.List.Sorted.{IsStrictlyIncreasing}
use Rattle.std.proofs.Common.{arith, ap, sym, ◌∙◌, inl, inr, mul-le-mul_right}
use Rattle.std.proofs.lemmas.Bool.{cases_lt}
use Rattle.std.proofs.lemmas.Grind.{div_ceil_times}
use Rattle.std.proofs.lemmas.List.Elements.{All-head, All-tail}
use Rattle.plans_partitions.proofs.Places.{not_falling}
use Rattle.plans_space.specs.Caps.{stride, IsCandidate}
use Rattle.plans_space.specs.Costs.{Ascends}
use Rattle.plans_space.specs.Laws.{EligibleIsShort}
use Rattle.plans_space.proofs.StopLemmas.{min_to, min_past}

-- where the candidate stands that is so many strides on
abbrev pub place : List ℕ → ℕ → ℕ
place times k = min (k * stride (length times - 1)) (length times - 1)

lower : (a b n : ℕ) → a ≤ b → min a n ≤ min b n
lower a b n le = grind (arith)

-- 127 strides reach the last place
reached : (n : ℕ) → n ≤ 127 * stride n
reached n = omega (arith, (div_ceil_times n 127 (omega arith)).0)

-- so each candidate is at most 127 strides on
pub numbered : (times : List ℕ) (g : ℕ) → IsCandidate times g → (k : ℕ) × (k ≤ 127) × (slice_index times (place times k) ≡ g)
numbered times g (k, e) = go (cases_lt 127 k)
  where
    past : (i : ℕ) → 127 ≤ i → place times i ≡ length times - 1
    past i l = min_past (i * stride (length times - 1)) (length times - 1) (omega (arith, reached (length times - 1), mul-le-mul_right {m = 127} {n = i} (stride (length times - 1)) l))

    go : ((127 < k) ⊎ (k ≤ 127)) → (k : ℕ) × (k ≤ 127) × (slice_index times (place times k) ≡ g)
    go (inr l) = (k, l, e)
    go (inl l) = (127, omega arith, ap (λ p. slice_index times p) (past 127 (omega arith) ∙ sym (past k (omega arith))) ∙ e)

-- a later candidate is more strides on
later : (times : List ℕ) → IsStrictlyIncreasing times → (j k : ℕ) → slice_index times (place times j) < slice_index times (place times k) → j < k
later times up j k lt = go (cases_lt j k) (cases_lt 0 (length times))
  where
    go : ((j < k) ⊎ (k ≤ j)) → ((0 < length times) ⊎ (length times ≤ 0)) → j < k
    go (inl h) some = h
    go (inr ge) (inl some) = absurd (omega (
      arith,
      lt,
      not_falling times up (place times k) (place times j) (lower (k * stride (length times - 1)) (j * stride (length times - 1)) (length times - 1) (mul-le-mul_right {m = k} {n = j} (stride (length times - 1)) ge))
          (omega (arith, some, min_to (j * stride (length times - 1)) (length times - 1))),
    ))
    go (inr ge) (inr none) =
        let e : place times j ≡ place times k = omega (arith, none, min_to (j * stride (length times - 1)) (length times - 1), min_to (k * stride (length times - 1)) (length times - 1)) in
        absurd (omega (arith, lt, ap (λ p. slice_index times p) e))

-- cuts at candidates are no more than the strides that are left
counted : (times : List ℕ) → IsStrictlyIncreasing times → (cuts : List ℕ) (j f end : ℕ) → j ≤ 127 → slice_index times (place times j) ≡ f → Ascends f cuts end → All (IsCandidate times) cuts → j + length cuts ≤ 127
counted times up [] j f end l e a c = omega (arith, l)
counted times up (g ∷ cuts) j f end l e (lt, a) c = go (numbered times g (All-head (IsCandidate times) g cuts c)) (λ k m h. counted times up cuts k g end m h a (All-tail (IsCandidate times) g cuts c))
  where
    go : ((k : ℕ) × (k ≤ 127) × (slice_index times (place times k) ≡ g)) → ((k : ℕ) → k ≤ 127 → slice_index times (place times k) ≡ g → k + length cuts ≤ 127) → j + length (g ∷ cuts) ≤ 127
    go (k, m, h) rest = omega (arith, later times up j k (omega (arith, lt, e, h)), rest k m h)

pub short : EligibleIsShort
short list times factor f horizon cuts up first (inl (lt, e)) = omega (arith, ap length e)
short list times factor f horizon cuts up first (inr w) =
    let z : place times 0 ≡ 0 = omega arith in
    omega (arith, counted times up cuts 0 f horizon (omega arith) (ap (λ p. slice_index times p) z ∙ first) w.ascends w.candidates)
