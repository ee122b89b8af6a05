-- Stored plans as partitions.
use Rattle.std.specs.Prelude.{◌≡◌, ◌↔◌, ℕ, suc, ◌-◌, ◌+◌, ◌<◌, ◌≤◌, List, [], ◌∷◌, ◌++◌, map, length, slice_index, All, refl}
use Rattle.std.specs.List.Sorted.{IsStrictlyIncreasing}
use Rattle.std.proofs.Common.{arith, ap, sym, ◌∙◌, subst}
use Rattle.std.proofs.Math.Seq.{get_or-append_seam}
use Rattle.std.proofs.Math.ListN.{length-append}
use Rattle.std.proofs.lemmas.List.{map-append, length-map}
use Rattle.std.proofs.lemmas.List.Elements.{Contains-get_or}
use Rattle.base_types.specs.declared.time.Time.{Time}
use Rattle.base_types.specs.declared.posting.Posting.{Posting}
use Rattle.base_types.specs.declared.fraction.Fraction.{Fraction}
use Rattle.plans_partitions.specs.Boundaries.{IsBoundary, IsFirst, AreBoundaries}
use Rattle.plans_partitions.proofs.Bests.{each_has_a_least_plan}
use Rattle.plans_partitions.proofs.Narrow.{narrow}
use Rattle.plans_partitions.proofs.Ordering.{Rise, increasing, rising, each_has_boundaries}
use Rattle.plans_partitions.proofs.Tables.{some_time, first_le}
use Rattle.plans_space.specs.Costs.{Ascends}
use Rattle.plans_kinds.specs.Plans.{later, IsNarrow, IsLeastPlan, IsFit, IsFitPlan}

-- ---- the cuts of a plan

-- in one list
pub seconds_are : (f : Time) (cuts : List Time) (horizon : Time) → f.seconds ∷ later cuts horizon.seconds ≡ map (λ (t : Time). t.seconds) (f ∷ cuts ++ horizon ∷ [])
seconds_are f cuts horizon = ap (λ (xs : List ℕ). f.seconds ∷ xs) (sym (map-append (λ (t : Time). t.seconds) cuts (horizon ∷ [])))

pub later_long : (cuts : List Time) (h : ℕ) → length (later cuts h) ≡ length cuts + 1
later_long cuts h = omega (arith, length-append (map (λ (t : Time). t.seconds) cuts) (h ∷ []), length-map cuts (λ (t : Time). t.seconds))

-- the last one is the horizon
pub ends_at : (cuts : List Time) (h : ℕ) → slice_index (later cuts h) (length (later cuts h) - 1) ≡ h
ends_at cuts h =
    let place : length (later cuts h) - 1 ≡ length (map (λ (t : Time). t.seconds) cuts) = omega (arith, later_long cuts h, length-map cuts (λ (t : Time). t.seconds)) in
    ap (slice_index (later cuts h)) place ∙ get_or-append_seam (map (λ (t : Time). t.seconds) cuts) h [] 0

-- they ascend
rise_is : (f : ℕ) (cuts : List Time) (h : ℕ) → Rise (suc f) (later cuts h) ↔ Ascends f (later cuts h) h
rise_is f [] h = (λ r. (r.0, refl), λ a. (a.0, tt))
rise_is f (g ∷ cuts) h = let on = rise_is g.seconds cuts h in (λ r. (r.0, on.0 r.1), λ a. (a.0, on.1 a.1))

pub ascends_is : (f : Time) (cuts : List Time) (h : ℕ) → IsStrictlyIncreasing (later (f ∷ cuts) h) ↔ Ascends f.seconds (later cuts h) h
ascends_is f cuts h = (
  λ up. (rise_is f.seconds cuts h).0 (rising f.seconds (later (f ∷ cuts) h) (omega arith) up).1,
  λ a. increasing f.seconds (later (f ∷ cuts) h) (omega arith, (rise_is f.seconds cuts h).1 a),
)

-- the first boundary is the first of them in order
pub first_is : (list : List Posting) (h : ℕ) (times : List ℕ) → AreBoundaries list h times → (f : ℕ) → IsFirst list h f ↔ (f ≡ slice_index times 0)
first_is list h times b f =
    let here : IsBoundary list h (slice_index times 0) = (b.each _).0 (Contains-get_or times 0 0 (some_time list h times b)) in (
      λ first. omega (arith, first.none_before (slice_index times 0) here, first_le times b.ascending f ((b.each f).1 first.is)),
      λ e. record { is = subst (IsBoundary list h) (sym e) here; none_before = λ t c. omega (arith, e, first_le times b.ascending t ((b.each t).1 c)) },
    )

-- ---- plans that keep to a guarantee

pub least_is_fit : (list : List Posting) (factor : Fraction) (cuts : List Time) (h : ℕ) → IsLeastPlan list factor cuts h → IsFitPlan list factor cuts h
least_is_fit list factor [] h least = absurd least
least_is_fit list factor (f ∷ cuts) h least = record { first = least.first; at_boundaries = least.at_boundaries; covers = least.covers }

pub each_has_a_plan : (list : List Posting) (factor : Fraction) (horizon : Time) → 0 < length list → All (λ p. p.span.to ≤ horizon.seconds) list → (cuts : List Time) × IsLeastPlan list factor cuts horizon.seconds
each_has_a_plan list factor horizon some early =
    let (first, (cuts, least)) = each_has_a_least_plan list factor horizon some early in (first ∷ cuts, least)

-- its cuts ascend
pub fit_ascends : (list : List Posting) (factor : Fraction) (f : Time) (cuts : List Time) (h : ℕ) → IsFit list factor f.seconds (later cuts h) h → IsStrictlyIncreasing (later (f ∷ cuts) h)
fit_ascends list factor f cuts h fit =
    let (times, b) = each_has_boundaries list h in
    (narrow list factor h times f.seconds (later cuts h) h b fit.first.is fit.at_boundaries fit.covers).0

-- one of a narrow list has fewer cuts than the list may have boundaries
pub narrow_cuts : (list : List Posting) (factor : Fraction) (cuts : List Time) (h : ℕ) → IsNarrow list h → IsFitPlan list factor cuts h → length cuts ≤ 1048575
narrow_cuts list factor [] h n fit = absurd fit
narrow_cuts list factor (f ∷ cuts) h (times, b, few) fit =
    let ends = narrow list factor h times f.seconds (later cuts h) h b fit.first.is fit.at_boundaries fit.covers in
    omega (arith, few, ends.1, later_long cuts h)
