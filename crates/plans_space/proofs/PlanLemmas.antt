-- Paths over stops are partitions that cut at candidates, and the other way round.
use Rattle.std.specs.Prelude.{◌≡◌, ◌⊎◌, ℕ, ◌+◌, ◌-◌, ◌*◌, ◌<◌, ◌≤◌, min, List, [], ◌∷◌, map, length, slice_index, All, refl}
use Rattle.std.proofs.Common.{arith, ap, sym, ◌∙◌, subst, inl, inr, mul-le-mul_right}
use Rattle.std.proofs.lemmas.Bool.{cases_lt}
use Rattle.std.proofs.lemmas.List.Elements.{All-nil, All-cons, All-head, All-tail}
use Rattle.base_types.specs.declared.posting.Posting.{Posting}
use Rattle.lists_postings.specs.Sizes.{size}
use Rattle.plans_partitions.specs.Counts.{Counts, Tabulates}
use Rattle.plans_partitions.proofs.Places.{rises}
use Rattle.plans_partitions.proofs.Tables.{size_is}
use Rattle.plans_space.specs.Caps.{charge, stride, IsCandidate}
use Rattle.plans_space.specs.Costs.{Ascends, along, charges, expected_cost}
use Rattle.plans_space.specs.Steps.{AreStops, AreSums, Falls, leg_charge, leg_cost}
use Rattle.plans_space.proofs.CostLemmas.{weighed, weighed_is, cost_by_segments}
use Rattle.plans_space.proofs.StopLemmas.{stop_falls, stop_inside, stop_last, min_past}

module _ (list : List Posting) (horizon : ℕ) (table : Counts) (unit' : ℕ) (weights sums places : List ℕ) (many : 2 ≤ length table.boundaries) (t : Tabulates list horizon table)
    (s : AreStops (length table.boundaries) places) (long : length weights + 1 ≡ length table.boundaries) (a : AreSums weights sums) where
  pub time_falls : (j i : ℕ) → j < i → i < length places → slice_index table.boundaries (slice_index places i) < slice_index table.boundaries (slice_index places j)
  time_falls j i lt l = rises table.boundaries t.boundaries.ascending (slice_index places i) (slice_index places j) (stop_falls (length table.boundaries) places many s j i lt l) (stop_inside (length table.boundaries) places many s j (omega arith))

  stop_candidate : (i : ℕ) → i < length places → IsCandidate table.boundaries (slice_index table.boundaries (slice_index places i))
  stop_candidate i l = (length places - 1 - i, ap (λ p. slice_index table.boundaries p) (sym (s.each i l)))

  candidate_stop : (x : ℕ) → IsCandidate table.boundaries x → (i : ℕ) × (i < length places) × (slice_index table.boundaries (slice_index places i) ≡ x)
  candidate_stop x (k, e) = go (cases_lt (length places - 1) k)
    where
      go : ((length places - 1 < k) ⊎ (k ≤ length places - 1)) → (i : ℕ) × (i < length places) × (slice_index table.boundaries (slice_index places i) ≡ x)
      go (inl h) = (
        0,
        omega (arith, s.some),
        ap (λ p. slice_index table.boundaries p) (stop_last (length table.boundaries) places s ∙ sym (min_past (k * stride (length table.boundaries - 1)) (length table.boundaries - 1)
            (omega (arith, s.whole, mul-le-mul_right {m = length places - 1} {n = k} (stride (length table.boundaries - 1)) (omega arith))))) ∙ e,
      )
      go (inr h) = let f : length places - 1 - (length places - 1 - k) ≡ k = omega arith in
          (length places - 1 - k, omega (arith, s.some), ap (λ p. slice_index table.boundaries p) (s.each (length places - 1 - k) (omega (arith, s.some)) ∙ ap (λ z. min (z * stride (length table.boundaries - 1)) (length table.boundaries - 1)) f) ∙ e)

  pub charge_is : (i j : ℕ) → j < i → i < length places → charge unit' (size (slice_index table.boundaries (slice_index places i)) (slice_index table.boundaries (slice_index places j)) list) ≡ leg_charge table unit' places i j
  charge_is i j lt l = ap (λ z. charge unit' z) (sym (size_is list horizon table t (slice_index places i) (slice_index places j) (stop_falls (length table.boundaries) places many s j i lt l) (stop_inside (length table.boundaries) places many s j (omega arith))))

  pub cost_is : (i j : ℕ) → j < i → i < length places
      → weighed table.boundaries weights (slice_index table.boundaries (slice_index places i)) (slice_index table.boundaries (slice_index places j)) * size (slice_index table.boundaries (slice_index places i)) (slice_index table.boundaries (slice_index places j)) list ≡ leg_cost table sums places i j
  cost_is i j lt l =
      ap (λ w. w * size (slice_index table.boundaries (slice_index places i)) (slice_index table.boundaries (slice_index places j)) list)
      (weighed_is table.boundaries weights sums t.boundaries.ascending long a (slice_index places i) (slice_index places j) (stop_falls (length table.boundaries) places many s j i lt l) (stop_inside (length table.boundaries) places many s j (omega arith)))
      ∙ ap (λ z. (slice_index sums (slice_index places j) - slice_index sums (slice_index places i)) * z)
      (sym (size_is list horizon table t (slice_index places i) (slice_index places j) (stop_falls (length table.boundaries) places many s j i lt l) (stop_inside (length table.boundaries) places many s j (omega arith))))

  pub path_ascends : (i : ℕ) (path : List ℕ) → i < length places → Falls i path → Ascends (slice_index table.boundaries (slice_index places i)) (map (λ k. slice_index table.boundaries (slice_index places k)) path) (slice_index table.boundaries (slice_index places 0))
  path_ascends i [] l f = ap (λ k. slice_index table.boundaries (slice_index places k)) f
  path_ascends i (j ∷ path) l (lt, f) = (time_falls j i lt l, path_ascends j path (omega arith) f)

  pub path_candidates : (i : ℕ) (path : List ℕ) → i < length places → Falls i path → All (IsCandidate table.boundaries) (map (λ k. slice_index table.boundaries (slice_index places k)) path)
  path_candidates i [] l f = All-nil (IsCandidate table.boundaries)
  path_candidates i (j ∷ path) l (lt, f) = All-cons (IsCandidate table.boundaries) (slice_index table.boundaries (slice_index places j)) (map (λ k. slice_index table.boundaries (slice_index places k)) path) (stop_candidate j (omega arith)) (path_candidates j path (omega arith) f)

  path_along : (value : ℕ → ℕ → ℕ) (legs : ℕ → ℕ → ℕ) → ((i j : ℕ) → j < i → i < length places → value (slice_index table.boundaries (slice_index places i)) (slice_index table.boundaries (slice_index places j)) ≡ legs i j)
      → (i : ℕ) (path : List ℕ) → i < length places → Falls i path → along value (slice_index table.boundaries (slice_index places i)) (map (λ k. slice_index table.boundaries (slice_index places k)) path) ≡ along legs i path
  path_along value legs h i [] l f = refl
  path_along value legs h i (j ∷ path) l (lt, f) = omega (arith, h i j lt l, path_along value legs h j path (omega arith) f)

  pub path_charges : (i : ℕ) (path : List ℕ) → i < length places → Falls i path
      → charges list unit' (slice_index table.boundaries (slice_index places i)) (map (λ k. slice_index table.boundaries (slice_index places k)) path) ≡ along (leg_charge table unit' places) i path
  path_charges i path l f = path_along (λ x y. charge unit' (size x y list)) (leg_charge table unit' places) charge_is i path l f

  pub path_costs : (i : ℕ) (path : List ℕ) → i < length places → Falls i path
      → expected_cost list (slice_index table.boundaries (slice_index places i)) (map (λ k. slice_index table.boundaries (slice_index places k)) path) table.boundaries weights ≡ along (leg_cost table sums places) i path
  path_costs i path l f =
      cost_by_segments list table.boundaries weights (slice_index table.boundaries (slice_index places i)) (map (λ k. slice_index table.boundaries (slice_index places k)) path) (slice_index table.boundaries (slice_index places 0)) (path_ascends i path l f)
      ∙ path_along (λ x y. weighed table.boundaries weights x y * size x y list) (leg_cost table sums places) cost_is i path l f

  -- a partition that cuts at candidates is that of a path
  pub path_of : (cuts : List ℕ) (i : ℕ) → i < length places → Ascends (slice_index table.boundaries (slice_index places i)) cuts (slice_index table.boundaries (slice_index places 0)) → All (IsCandidate table.boundaries) cuts
      → (path : List ℕ) × Falls i path × (map (λ k. slice_index table.boundaries (slice_index places k)) path ≡ cuts)
  path_of [] i l e c = ([], elim (cases_lt 0 i) [ inl h ↦ absurd (omega (arith, time_falls 0 i h l, e)) | inr h ↦ omega (arith, h) ], refl)
  path_of (g ∷ cuts) i l (lt, up) c = go (candidate_stop g (All-head (IsCandidate table.boundaries) g cuts c)) (λ j m e. path_of cuts j m (subst (λ x. Ascends x cuts (slice_index table.boundaries (slice_index places 0))) (sym e) up) (All-tail (IsCandidate table.boundaries) g cuts c))
    where
      lower : (j : ℕ) → j < length places → slice_index table.boundaries (slice_index places j) ≡ g → ((i < j) ⊎ (j ≤ i)) → ((j < i) ⊎ (i ≤ j)) → j < i
      lower j m e (inl h) d = absurd (omega (arith, time_falls i j h m, lt, e))
      lower j m e (inr h) (inl d) = d
      lower j m e (inr h) (inr d) = let f : i ≡ j = omega arith in absurd (omega (arith, lt, e, ap (λ k. slice_index table.boundaries (slice_index places k)) f))

      go : ((j : ℕ) × (j < length places) × (slice_index table.boundaries (slice_index places j) ≡ g))
          → ((j : ℕ) → j < length places → slice_index table.boundaries (slice_index places j) ≡ g → (path : List ℕ) × Falls j path × (map (λ k. slice_index table.boundaries (slice_index places k)) path ≡ cuts))
          → (path : List ℕ) × Falls i path × (map (λ k. slice_index table.boundaries (slice_index places k)) path ≡ g ∷ cuts)
      go (j, m, e) rest = let p : (path : List ℕ) × Falls j path × (map (λ k. slice_index table.boundaries (slice_index places k)) path ≡ cuts) = rest j m e in
          (j ∷ p.0, (lower j m e (cases_lt i j) (cases_lt j i), p.1), (λ x. e x ∷ p.2 x))
