-- The way back along left ends as a partition.
use Rattle.std.specs.Prelude.{◌≡◌, ℕ, zero, suc, ◌+◌, ◌-◌, ◌<◌, ◌≤◌, List, [], ◌∷◌, ◌++◌, map, length, slice_index, All, Contains, reverse, refl}
use Rattle.std.specs.List.Sorted.{IsStrictlyIncreasing}
use Rattle.std.proofs.Common.{arith, ap, sym, ◌∙◌, inl, inr}
use Rattle.std.proofs.lemmas.Bool.{cases_lt}
use Rattle.std.proofs.lemmas.List.{reverse-append}
use Rattle.std.proofs.lemmas.List.Elements.{All-nil, All-cons, All-tail, Contains-get_or}
use Rattle.base_types.specs.declared.posting.Posting.{Posting}
use Rattle.base_types.specs.declared.fraction.Fraction.{Fraction}
use Rattle.plans_partitions.specs.Boundaries.{IsBoundary}
use Rattle.plans_partitions.specs.Counts.{Counts, Tabulates}
use Rattle.plans_partitions.specs.Partitions.{Covers, AreBest, IsFitting, IsPartition, space}
use Rattle.plans_partitions.proofs.Bests.{IsWayTo, longer_way, are_best}
use Rattle.plans_partitions.proofs.Ordering.{Rise, increasing}
use Rattle.plans_partitions.proofs.Places.{rises}
use Rattle.plans_partitions.proofs.Tables.{size_is, admissible_from_counts, counts_from_admissible, last_is_horizon}
use Rattle.plans_partitions.proofs.Walk.{AreBounds}
use Rattle.plans_guarantee.specs.Certificates.{CertifiesCuts}
use Rattle.plans_guarantee.specs.Steps.{IsBestLeft, AreSettled, HasCuts, LeadsBy, IsWay}

-- the way grows at its front
pub way_more : (times lefts : List ℕ) (at next end : ℕ) (cuts : List ℕ) (x : ℕ) → next ≡ slice_index lefts at → x ≡ slice_index times next → next < at → at < length lefts
    → IsWay times lefts at end (reverse cuts) → IsWay times lefts next end (reverse (cuts ++ x ∷ []))
way_more times lefts at next end cuts x e f lt l w = record {
  places = at ∷ w.places;
  are = reverse-append cuts (x ∷ []) ∙ (λ i. f i ∷ w.are i);
  leads = (sym e, lt, l, w.leads);
}

pub count_more : (lefts : List ℕ) (at next end count : ℕ) → next ≡ slice_index lefts at → next < at → at < length lefts → HasCuts lefts at end count → HasCuts lefts next end (count + 1)
count_more lefts at next end count e lt l h = record {
  places = at ∷ h.places;
  leads = (sym e, lt, l, h.leads);
  many = omega (arith, h.many);
}

-- the numbers are bounds
pub settled_bounds : (list : List Posting) (horizon : ℕ) (table : Counts) (factor : Fraction) (pi lefts : List ℕ) → Tabulates list horizon table → AreSettled table factor pi lefts (length table.boundaries) → AreBounds list factor horizon table.boundaries pi
settled_bounds list horizon table factor pi lefts t s = record {
  times_are = t.boundaries;
  edges = λ j k lt l adm. omega (arith, (s.best k (omega arith) l).takes, (s.best k (omega arith) l).none_better j lt (counts_from_admissible list horizon table factor t j k lt l adm), size_is list horizon table t j k lt l);
}

-- what a way is of a list
abbrev IsCovering : List Posting → Fraction → Counts → List ℕ → ℕ → ℕ → List ℕ → Type 0
IsCovering list factor table pi at end cuts =
    Covers list factor (slice_index table.boundaries at) cuts (slice_index table.boundaries end) × (slice_index pi at + space list (slice_index table.boundaries at) cuts ≡ slice_index pi end)

covering : (list : List Posting) (horizon : ℕ) (table : Counts) (factor : Fraction) (pi lefts : List ℕ) → Tabulates list horizon table → AreSettled table factor pi lefts (length table.boundaries)
    → (places : List ℕ) (at end : ℕ) → LeadsBy lefts at places end → IsCovering list factor table pi at end (map (λ p. slice_index table.boundaries p) places)
covering list horizon table factor pi lefts t s [] at end w = (ap (λ n. slice_index table.boundaries n) w, omega (arith, ap (λ n. slice_index pi n) w))
covering list horizon table factor pi lefts t s (p ∷ places) at end (e, lt, l, w) =
    let (covers, costs) = covering list horizon table factor pi lefts t s places p end w in
    let m : p < length table.boundaries = omega (arith, l, s.lefts_long) in
    let best : IsBestLeft table factor pi p at = rw e at (s.best p (omega arith) m) in (
      (rises table.boundaries t.boundaries.ascending at p lt m, admissible_from_counts list horizon table factor t at p lt m best.admissible, covers),
      omega (arith, costs, best.takes, size_is list horizon table t at p lt m),
    )

-- a way to every boundary
ways_to : (list : List Posting) (horizon : ℕ) (table : Counts) (factor : Fraction) (pi lefts : List ℕ) → Tabulates list horizon table → AreSettled table factor pi lefts (length table.boundaries)
    → (n k : ℕ) → k < n → k < length table.boundaries → IsWayTo list factor horizon (slice_index table.boundaries 0) (slice_index table.boundaries k) (slice_index pi k)
ways_to list horizon table factor pi lefts t s zero k a l = absurd (omega (arith, a))
ways_to list horizon table factor pi lefts t s (suc n) k a l = elim (cases_lt 0 k) [
  | inl some ↦ let b = s.best k some l in
      rw (b.takes, size_is list horizon table t (slice_index lefts k) k b.before l)
      (longer_way list factor horizon _ (slice_index table.boundaries (slice_index lefts k)) _ _ (ways_to list horizon table factor pi lefts t s n (slice_index lefts k) (omega (arith, a, b.before)) (omega (arith, l, b.before)))
      (rises table.boundaries t.boundaries.ascending (slice_index lefts k) k b.before l) (admissible_from_counts list horizon table factor t (slice_index lefts k) k b.before l b.admissible) ((t.boundaries.each _).0 (Contains-get_or table.boundaries k 0 l)))
  | inr z ↦ let e : k ≡ 0 = omega arith in rw (e, s.starts) (record { cuts = []; covers = refl; at_boundaries = All-nil (IsBoundary list horizon); takes = refl })
]

pub settled_best : (list : List Posting) (horizon : ℕ) (table : Counts) (factor : Fraction) (pi lefts : List ℕ) → Tabulates list horizon table → AreSettled table factor pi lefts (length table.boundaries) → AreBest list factor horizon table.boundaries pi
settled_best list horizon table factor pi lefts t s =
    are_best list factor horizon table.boundaries pi (settled_bounds list horizon table factor pi lefts t s) s.starts s.pi_long (λ k l. ways_to list horizon table factor pi lefts t s (suc k) k (omega arith) l)

-- the whole way is a partition that fits
way_rises : (times lefts : List ℕ) → IsStrictlyIncreasing times → length lefts ≤ length times → (places : List ℕ) (at end : ℕ) → LeadsBy lefts at places end → Rise (suc (slice_index times at)) (map (λ p. slice_index times p) places)
way_rises times lefts up l [] at end w = tt
way_rises times lefts up l (p ∷ places) at end (e, lt, m, w) = (rises times up at p lt (omega arith), way_rises times lefts up l places p end w)

way_last : (times lefts : List ℕ) (places : List ℕ) (at end : ℕ) → LeadsBy lefts at places end → slice_index (map (λ p. slice_index times p) (at ∷ places)) (length (map (λ p. slice_index times p) places)) ≡ slice_index times end
way_last times lefts [] at end w = ap (λ n. slice_index times n) w
way_last times lefts (p ∷ places) at end (e, lt, m, w) = way_last times lefts places p end w

way_inside : (times lefts : List ℕ) → length lefts ≤ length times → (places : List ℕ) (at end : ℕ) → at < length times → LeadsBy lefts at places end → All (Contains times) (map (λ p. slice_index times p) (at ∷ places))
way_inside times lefts l [] at end m w = All-cons (Contains times) (slice_index times at) [] (Contains-get_or times at 0 m) (All-nil (Contains times))
way_inside times lefts l (p ∷ places) at end m (e, lt, n, w) = All-cons (Contains times) (slice_index times at) (map (λ r. slice_index times r) (p ∷ places)) (Contains-get_or times at 0 m) (way_inside times lefts l places p end (omega arith) w)

long_enough : (times lefts places : List ℕ) (end : ℕ) → 0 < end → LeadsBy lefts 0 places end → 2 ≤ length (map (λ p. slice_index times p) (0 ∷ places))
long_enough times lefts [] end lt w = absurd (omega (arith, w))
long_enough times lefts (p ∷ places) end lt w = omega arith

pub way_fits : (times lefts cuts : List ℕ) → 2 ≤ length times → length lefts ≡ length times → IsWay times lefts 0 (length times - 1) cuts → IsFitting times cuts
way_fits times lefts cuts some l w =
    let e : length (map (λ p. slice_index times p) (0 ∷ w.places)) - 1 ≡ length (map (λ p. slice_index times p) w.places) = omega arith in
    rw w.are (record {
      first = refl;
      last = rw e (way_last times lefts w.places 0 (length times - 1) w.leads);
      inside = way_inside times lefts (omega arith) w.places 0 (length times - 1) (omega arith) w.leads;
    })

pub way_parts : (times lefts cuts : List ℕ) → 2 ≤ length times → IsStrictlyIncreasing times → length lefts ≡ length times → IsWay times lefts 0 (length times - 1) cuts → IsPartition cuts
way_parts times lefts cuts some up l w = rw w.are (record {
  many = long_enough times lefts w.places (length times - 1) (omega arith) w.leads;
  ascending = increasing (slice_index times 0) (map (λ p. slice_index times p) (0 ∷ w.places)) (omega arith, way_rises times lefts up (omega arith) w.places 0 (length times - 1) w.leads);
})

-- and it is certified by the numbers
pub way_certified : (list : List Posting) (horizon : ℕ) (table : Counts) (factor : Fraction) (pi lefts cuts : List ℕ) → 2 ≤ length table.boundaries → Tabulates list horizon table → AreSettled table factor pi lefts (length table.boundaries)
    → IsWay table.boundaries lefts 0 (length table.boundaries - 1) cuts → CertifiesCuts list factor table.boundaries pi cuts horizon
way_certified list horizon table factor pi lefts cuts some t s w =
    let (covers, costs) = covering list horizon table factor pi lefts t s w.places 0 (length table.boundaries - 1) w.leads in
    let inside = way_inside table.boundaries lefts (omega (arith, s.lefts_long)) w.places 0 (length table.boundaries - 1) (omega arith) w.leads in
    record {
      fits = way_fits table.boundaries lefts cuts some s.lefts_long w;
      certifies = rw w.are (record {
        times_are = t.boundaries;
        early = t.early;
        at_boundaries = λ i d m. (t.boundaries.each _).0 (All-tail (Contains table.boundaries) _ _ inside i d m);
        covers = rw (last_is_horizon list horizon table.boundaries t.boundaries t.early) at covers;
        long = s.pi_long;
        starts = s.starts;
        edges = (settled_bounds list horizon table factor pi lefts t s).edges;
        total = omega (arith, costs, s.starts);
      });
    }
