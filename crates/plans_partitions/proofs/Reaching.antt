-- Admissible segments inside admissible ones, and how far back they reach.
use Rattle.std.proofs.Common.{arith, ap, ◌∙◌, inl, inr, below_more, ◌≡◌, ◌↔◌, ℕ, ◌+◌, ◌-◌, ◌*◌, ◌<◌, ◌≤◌, Bool, IsTrue, List, [], ◌∷◌, ◌++◌, length, slice_index, mul-le-mul_left, mul-le-mul_right, zero, suc}
use Rattle.std.proofs.lemmas.Bool.{cases_lt}
use Rattle.std.proofs.lemmas.List.{get_or_default}
use Rattle.std.proofs.lemmas.List.Sorted.{IsNonDecreasingBy-short, IsNonDecreasingBy-push}
use Rattle.base_types.specs.declared.fraction.Fraction.{Fraction}
use Rattle.plans_partitions.specs.Windows.{IsLeastIn}
use Rattle.plans_partitions.proofs.Pushing.{at_end, kept_before, one_longer}
use Rattle.plans_partitions.specs.Counts.{Counts, AreOrdered, size_between, alive_in, AdmissibleBetween}
use Rattle.plans_partitions.specs.Reaches.{IsReach, AreReaches, NoneBefore}

-- an elementary interval is always admissible
pub elementary_admissible : (table : Counts) (factor : Fraction) (m k : ℕ) → m + 1 ≡ k → AdmissibleBetween table factor m k
elementary_admissible table factor m k e i a b =
    let f : i ≡ m = omega arith in
    rw (f, ← e) (omega (arith, mul-le-mul_left (alive_in table m) factor.at_least_one))

-- a segment inside an admissible one is admissible
pub inside_admissible : (table : Counts) (factor : Fraction) (j i m k : ℕ) → AreOrdered table.boundaries table.begun table.ended → k < length table.boundaries → j ≤ i → i ≤ m → m ≤ k → AdmissibleBetween table factor j k
    → AdmissibleBetween table factor i m
inside_admissible table factor j i m k o l a b c adm x d e =
    let smaller : size_between table i m ≤ size_between table j k =
    omega (arith, o.begun_each, o.ended_each, o.begun_rises m k 0 c (omega (arith, o.begun_each)), o.ended_rises j i 0 a (omega (arith, o.ended_each))) in
    omega (arith, mul-le-mul_right factor.under smaller, adm x (omega arith) (omega arith))

-- the start of an admissible segment, where none before it is
pub reach_is : (table : Counts) (factor : Fraction) (k low : ℕ) → AreOrdered table.boundaries table.begun table.ended → k < length table.boundaries → low < k → AdmissibleBetween table factor low k → NoneBefore table factor k low
    → IsReach table factor k low
reach_is table factor k low o l before adm none = record {
  before = before;
  each = λ j lt. (λ a. elim (cases_lt j low) [ inl h ↦ absurd (none j h a) | inr h ↦ h ], λ le. inside_admissible table factor low j k k o l le (omega arith) (omega arith) adm);
}

-- one more boundary is passed over
pub none_next : (table : Counts) (factor : Fraction) (k low : ℕ) → (AdmissibleBetween table factor low k → ⊥) → NoneBefore table factor k low → NoneBefore table factor k (low + 1)
none_next table factor k low bad none = below_more (λ j. AdmissibleBetween table factor j k → ⊥) low none bad

-- and it wasn't the last one
pub not_last : (table : Counts) (factor : Fraction) (k low : ℕ) → low < k → (AdmissibleBetween table factor low k → ⊥) → low + 1 < k
not_last table factor k low lt bad = elim (cases_lt (low + 1) k) [ inl h ↦ h | inr h ↦ absurd (bad (elementary_admissible table factor low k (omega arith))) ]

-- within the factor of what is least alive in a window is admissible
pub reached_iff : (table : Counts) (factor : Fraction) (low k place : ℕ) (b : Bool) → IsLeastIn (alive_in table) low k place → (IsTrue b ↔ (size_between table low k * factor.under ≤ factor.over * alive_in table place))
    → IsTrue b ↔ AdmissibleBetween table factor low k
reached_iff table factor low k place b s h = (
  λ t i m n. omega (arith, h.0 t, mul-le-mul_left factor.over (s.least i m n)),
  λ adm. h.1 (adm place s.after s.before),
)

pub reaches_first : (table : Counts) (factor : Fraction) (lows : List ℕ) → lows ≡ 0 ∷ [] → AreReaches table factor lows 1
reaches_first table factor lows e = record {
  long = ap length e;
  starts = ap (λ l. slice_index l 0) e;
  each = λ k a b. absurd (omega arith);
  rising = IsNonDecreasingBy-short (λ x. x) lows (omega (arith, ap length e));
}

pub last_reach : (table : Counts) (factor : Fraction) (lows lows' : List ℕ) (k low : ℕ) → lows' ≡ lows ++ low ∷ [] → AreReaches table factor lows k → slice_index lows' k ≡ low
last_reach table factor lows lows' k low made r = at_end lows lows' k low r.long made

pub reaches_next : (table : Counts) (factor : Fraction) (lows lows' : List ℕ) (k low : ℕ) → lows' ≡ lows ++ low ∷ [] → slice_index lows k ≤ low → IsReach table factor (k + 1) low → AreReaches table factor lows (k + 1)
    → AreReaches table factor lows' (k + 1 + 1)
reaches_next table factor lows lows' k low made up new r = record {
  long = one_longer lows lows' (k + 1) low r.long made;
  starts = kept_before lows lows' (k + 1) low 0 r.long made (omega arith) ∙ r.starts;
  each = λ m a b. below_more (λ i. 0 < i → IsReach table factor i (slice_index lows' i)) (k + 1)
      (λ i l p. rw (kept_before lows lows' (k + 1) low i r.long made l) (r.each i p l)) (λ p. rw (last_reach table factor lows lows' (k + 1) low made r) new) m b a;
  rising = rw made (IsNonDecreasingBy-push (λ x. x) lows low r.rising
      (λ d l. let last : length lows - 1 ≡ k = omega (arith, r.long) in rw (last, get_or_default lows k d 0 (omega (arith, r.long))) up));
}

-- what reaches too far back to a boundary does so to the next one
pub none_yet : (table : Counts) (factor : Fraction) (lows : List ℕ) (k low : ℕ) → AreOrdered table.boundaries table.begun table.ended → k + 1 < length table.boundaries → slice_index lows k ≡ low
    → AreReaches table factor lows (k + 1) → (low ≤ k) × NoneBefore table factor (k + 1) low
none_yet table factor lows zero low o l e r = (omega (arith, e, r.starts), λ j lt. absurd (omega (arith, e, r.starts, lt)))
none_yet table factor lows (suc k) low o l e r =
    let reach : IsReach table factor (suc k) low = rw e at (r.each (suc k) (omega arith) (omega arith)) in (
      omega (arith, reach.before),
      λ j lt adm. omega (arith, lt, (reach.each j (omega (arith, lt, reach.before))).0 (inside_admissible table factor j j (suc k) (suc k + 1) o l (omega arith) (omega (arith, lt, reach.before)) (omega arith) adm)),
    )
