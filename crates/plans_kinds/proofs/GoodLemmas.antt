-- What holds of plans by their kinds, and what is tested of them. Under a space bound it is so for any load.
use Rattle.std.specs.Prelude.{◌≡◌, ◌↔◌, ℕ, suc, ◌-◌, ◌^◌, ◌<◌, ◌≤◌, List, [], ◌∷◌, ◌++◌, map, drop, length, slice_index, All, Contains, Some, None, refl}
use Rattle.std.specs.List.Sorted.{IsStrictlyIncreasing}
use Rattle.std.proofs.Common.{arith, ap, sym, ◌∙◌, subst, inl, inr}
use Rattle.std.proofs.Math.ListN.{length-append}
use Rattle.std.proofs.lemmas.List.{length-map}
use Rattle.std.proofs.lemmas.List.Elements.{All-cons}
use Rattle.base_types.specs.declared.time.Time.{Time}
use Rattle.base_types.specs.declared.posting.Posting.{Posting}
use Rattle.base_types.specs.declared.fraction.Fraction.{Fraction}
use Rattle.base_commands.specs.declared.command.Kind.{Kind}
use Rattle.base_commands.specs.declared.command.Kind.TheVariants.{Guarantee, Uniform, Since}
use Rattle.plans_partitions.specs.Boundaries.{AreBoundaries}
use Rattle.plans_partitions.specs.Partitions.{widest, space, Covers, IsPartition, IsFitting}
use Rattle.plans_partitions.proofs.Ordering.{each_has_boundaries, one_list_of_boundaries}
use Rattle.plans_partitions.proofs.Places.{rises}
use Rattle.plans_partitions.proofs.Tables.{two_boundaries, last_is_horizon}
use Rattle.plans_space.specs.Caps.{cap}
use Rattle.plans_space.specs.Costs.{Ascends, expected_cost}
use Rattle.plans_space.specs.Loads.{weights_by}
use Rattle.plans_space.specs.Plans.{IsEligible}
use Rattle.plans_space.proofs.CapLemmas.{capped}
use Rattle.plans_space.proofs.ShortLemmas.{short}
use Rattle.plans_space.proofs.ThereIsABest.{each_has_a_best}
use Rattle.plans_kinds.specs.Plans.{later, each_second, each_second_since, IsBestPlan, IsNarrow, IsFitPlan, IsCappedPlan, IsPlanCost, IsFitFor}
use Rattle.plans_kinds.specs.Laws.{BeginsFirst, GoodPlansAreFit, EachListHasAGoodPlan, EachGoodPlanHasACost, GoodPlansCostTheSame, GoodPlansAreShort, FitPlansAreWellCut}
use Rattle.plans_kinds.proofs.PlanLemmas.{least_is_fit, each_has_a_plan, seconds_are, later_long, ends_at, ascends_is, first_is, fit_ascends, narrow_cuts}

-- ---- ascending cuts

eligible_ascends : (list : List Posting) (times : List ℕ) (factor : Fraction) (f h : ℕ) (cuts : List ℕ) → IsEligible list times factor f h cuts → Ascends f cuts h
eligible_ascends list times factor f h cuts (inl (lt, e)) = subst (λ (xs : List ℕ). Ascends f xs h) (sym e) (lt, refl)
eligible_ascends list times factor f h cuts (inr w) = w.ascends

ascends_to : (cuts : List ℕ) (f h : ℕ) → Ascends f cuts h → f ≤ h
ascends_to [] f h a = omega (arith, a)
ascends_to (g ∷ cuts) f h a = omega (arith, a.0, ascends_to cuts g h a.1)

-- cuts up to the horizon are those of a plan
as_plan : (horizon : Time) (cuts : List ℕ) (f : ℕ) → f < horizon.seconds → Ascends f cuts horizon.seconds → (plan : List Time) × (later plan horizon.seconds ≡ cuts)
as_plan horizon [] f lt a = absurd (omega (arith, lt, a))
as_plan horizon (g ∷ []) f lt (up, e) = ([], ap (λ x. x ∷ []) (sym e))
as_plan horizon (g ∷ i ∷ cuts) f lt (up, a) =
    let now : horizon.seconds < 2 ^ 40 = horizon.before_now in
    let before : g < horizon.seconds = omega (arith, a.0, ascends_to cuts i horizon.seconds a.1) in
    let (plan, e) = as_plan horizon (i ∷ cuts) g before a in
    (record { seconds = g; before_now = omega (arith, before, now) } ∷ plan, ap (λ xs. g ∷ xs) e)

-- ---- plans under a space bound

best_is_capped : (load : ℕ → ℕ → ℕ) (list : List Posting) (factor : Fraction) (cuts : List Time) (h : ℕ) → IsBestPlan load list factor cuts h → IsCappedPlan list factor cuts h
best_is_capped load list factor [] h b = absurd b
best_is_capped load list factor (f ∷ cuts) h b = record {
  first = b.first;
  ascends = eligible_ascends list b.times factor f.seconds h (later cuts h) b.best.eligible;
  capped = capped list b.times factor f.seconds h (later cuts h) b.best.eligible;
}

each_has_a_best_plan : (load : ℕ → ℕ → ℕ) (list : List Posting) (factor : Fraction) (horizon : Time) → 0 < length list → All (λ p. p.span.to ≤ horizon.seconds) list
    → (cuts : List Time) × IsBestPlan load list factor cuts horizon.seconds
each_has_a_best_plan load list factor horizon some early =
    let (times, b) = each_has_boundaries list horizon.seconds in
    let two : 2 ≤ length times = two_boundaries list horizon.seconds times b some in
    let now : horizon.seconds < 2 ^ 40 = horizon.before_now in
    let lt : slice_index times 0 < horizon.seconds = omega (arith, rises times b.ascending 0 (length times - 1) (omega (arith, two)) (omega (arith, two)), last_is_horizon list horizon.seconds times b early) in
    let (cuts, best) = each_has_a_best list times (weights_by load times) factor (slice_index times 0) horizon.seconds lt in
    let (plan, e) = as_plan horizon cuts (slice_index times 0) lt (eligible_ascends list times factor (slice_index times 0) horizon.seconds cuts best.eligible) in (
      record { seconds = slice_index times 0; before_now = omega (arith, lt, now) } ∷ plan,
      record { first = (first_is list horizon.seconds times b (slice_index times 0)).1 refl; times = times; times_are = b; best = rw e best },
    )

best_has_a_cost : (load : ℕ → ℕ → ℕ) (list : List Posting) (factor : Fraction) (cuts : List Time) (h : ℕ) → IsBestPlan load list factor cuts h → (n : ℕ) × IsPlanCost load list cuts h n
best_has_a_cost load list factor [] h b = absurd b
best_has_a_cost load list factor (f ∷ cuts) h b = (expected_cost list f.seconds (later cuts h) b.times (weights_by load b.times), (b.times, b.times_are, refl))

best_cost_the_same : (load : ℕ → ℕ → ℕ) (list : List Posting) (factor : Fraction) (one other : List Time) (h n m : ℕ) → IsBestPlan load list factor one h → IsBestPlan load list factor other h
    → IsPlanCost load list one h n → IsPlanCost load list other h m → n ≡ m
best_cost_the_same load list factor [] other h n m x y c d = absurd x
best_cost_the_same load list factor (f ∷ one) [] h n m x y c d = absurd y
best_cost_the_same load list factor (f ∷ one) (g ∷ other) h n m x y (times, b, c) (those, b', d) =
    let first : g.seconds ≡ f.seconds = omega (arith, x.first.none_before g.seconds y.first.is, y.first.none_before f.seconds x.first.is) in
    let same = λ (ts : List ℕ) (a : AreBoundaries list h ts). one_list_of_boundaries list h ts x.times a x.times_are in
    let v = rw (same y.times y.times_are, first) at y.best in
    omega (arith, rw (same times b) at c, rw (same those b', first) at d, x.best.best (later other h) v.eligible, v.best (later one h) x.best.eligible)

best_is_short : (load : ℕ → ℕ → ℕ) (list : List Posting) (factor : Fraction) (cuts : List Time) (h : ℕ) → IsBestPlan load list factor cuts h → length cuts ≤ 1048575
best_is_short load list factor [] h b = absurd b
best_is_short load list factor (f ∷ cuts) h b =
    omega (arith, later_long cuts h, short list b.times factor f.seconds h (later cuts h) b.times_are.ascending (sym ((first_is list h b.times b.times_are f.seconds).0 b.first)) b.best.eligible)

-- ---- by the kind

pub good_is_fit : GoodPlansAreFit
good_is_fit Guarantee list factor cuts horizon (n, least) = (n, least_is_fit list factor cuts horizon.seconds least)
good_is_fit Uniform list factor cuts horizon b = best_is_capped each_second list factor cuts horizon.seconds b
good_is_fit (Since at) list factor cuts horizon b = best_is_capped (each_second_since at.seconds) list factor cuts horizon.seconds b

pub each_has_a_good_plan : EachListHasAGoodPlan
each_has_a_good_plan Guarantee list factor horizon some early n = let (cuts, least) = each_has_a_plan list factor horizon some early in (cuts, (n refl, least))
each_has_a_good_plan Uniform list factor horizon some early n = each_has_a_best_plan each_second list factor horizon some early
each_has_a_good_plan (Since at) list factor horizon some early n = each_has_a_best_plan (each_second_since at.seconds) list factor horizon some early

pub each_has_a_cost : EachGoodPlanHasACost
each_has_a_cost Guarantee list factor cuts horizon g = (None, refl)
each_has_a_cost Uniform list factor cuts horizon b = let (n, c) = best_has_a_cost each_second list factor cuts horizon.seconds b in (Some n, (n, c, refl))
each_has_a_cost (Since at) list factor cuts horizon b = let (n, c) = best_has_a_cost (each_second_since at.seconds) list factor cuts horizon.seconds b in (Some n, (n, c, refl))

pub cost_the_same : GoodPlansCostTheSame
cost_the_same Guarantee list factor one other horizon cost price x y c d = c ∙ sym d
cost_the_same Uniform list factor one other horizon cost price x y (n, c, e) (m, d, f) = e ∙ ap (λ i. Some i) (best_cost_the_same each_second list factor one other horizon.seconds n m x y c d) ∙ sym f
cost_the_same (Since at) list factor one other horizon cost price x y (n, c, e) (m, d, f) =
    e ∙ ap (λ i. Some i) (best_cost_the_same (each_second_since at.seconds) list factor one other horizon.seconds n m x y c d) ∙ sym f

pub good_are_short : GoodPlansAreShort
good_are_short Guarantee list factor cuts horizon (n, least) = narrow_cuts list factor cuts horizon.seconds n (least_is_fit list factor cuts horizon.seconds least)
good_are_short Uniform list factor cuts horizon b = best_is_short each_second list factor cuts horizon.seconds b
good_are_short (Since at) list factor cuts horizon b = best_is_short (each_second_since at.seconds) list factor cuts horizon.seconds b

-- ---- what is tested

capped_well_cut : (list : List Posting) (factor : Fraction) (cuts : List Time) (horizon : Time) → IsCappedPlan list factor cuts horizon.seconds
    → (1 ≤ length cuts) × BeginsFirst list cuts horizon.seconds × IsStrictlyIncreasing (map (λ (t : Time). t.seconds) (cuts ++ horizon ∷ []))
capped_well_cut list factor [] horizon fit = absurd fit
capped_well_cut list factor (f ∷ cuts) horizon fit = (omega arith, fit.first, subst (λ (xs : List ℕ). IsStrictlyIncreasing xs) (seconds_are f cuts horizon) ((ascends_is f cuts horizon.seconds).1 fit.ascends))

pub fit_well_cut : FitPlansAreWellCut
fit_well_cut Guarantee list factor [] horizon (n, fit) = absurd fit
fit_well_cut Guarantee list factor (f ∷ cuts) horizon (n, fit) = (omega arith, fit.first, subst (λ (xs : List ℕ). IsStrictlyIncreasing xs) (seconds_are f cuts horizon) (fit_ascends list factor f cuts horizon.seconds fit))
fit_well_cut Uniform list factor cuts horizon fit = capped_well_cut list factor cuts horizon fit
fit_well_cut (Since at) list factor cuts horizon fit = capped_well_cut list factor cuts horizon fit

-- a plan that may be loaded is a partition
pub fit_is_partition : (kind : Kind) (list : List Posting) (factor : Fraction) (cuts : List Time) (horizon : Time) → IsFitFor kind list factor cuts horizon.seconds → IsPartition (map (λ (t : Time). t.seconds) (cuts ++ horizon ∷ []))
fit_is_partition kind list factor cuts horizon fit =
    let w = fit_well_cut kind list factor cuts horizon fit in
    record { many = omega (arith, w.0, length-map (cuts ++ horizon ∷ []) (λ (t : Time). t.seconds), length-append cuts (horizon ∷ [])); ascending = w.2 }

-- the test of one under a space bound, and that of one that keeps to a guarantee
pub keeps_bound : (list : List Posting) (factor : Fraction) (times p : List ℕ) (cuts : List Time) (horizon : Time) → AreBoundaries list horizon.seconds times → IsPartition p → p ≡ map (λ (t : Time). t.seconds) (cuts ++ horizon ∷ [])
    → ((slice_index p 0 ≡ slice_index times 0) × (space list (slice_index p 0) (drop 1 p) ≤ cap factor (length list))) ↔ IsCappedPlan list factor cuts horizon.seconds
keeps_bound list factor times p [] horizon b part e = absurd (omega (arith, part.many, ap length e))
keeps_bound list factor times p (f ∷ cuts) horizon b part e =
    let first = first_is list horizon.seconds times b f.seconds in
    let whole : p ≡ f.seconds ∷ later cuts horizon.seconds = e ∙ sym (seconds_are f cuts horizon) in
    rw whole (
      λ k. record { first = first.1 k.0; ascends = (ascends_is f cuts horizon.seconds).0 (rw whole at part.ascending); capped = k.1 },
      λ fit. (first.0 fit.first, fit.capped),
    )

pub keeps_guarantee : (list : List Posting) (factor : Fraction) (times p : List ℕ) (cuts : List Time) (horizon : Time) → AreBoundaries list horizon.seconds times → All (λ p. p.span.to ≤ horizon.seconds) list
    → IsPartition p → p ≡ map (λ (t : Time). t.seconds) (cuts ++ horizon ∷ [])
    → ((length times ≤ widest) × IsFitting times p × Covers list factor (slice_index p 0) (drop 1 p) horizon.seconds) ↔ (IsNarrow list horizon.seconds × IsFitPlan list factor cuts horizon.seconds)
keeps_guarantee list factor times p [] horizon b early part e = absurd (omega (arith, part.many, ap length e))
keeps_guarantee list factor times p (f ∷ cuts) horizon b early part e =
    let first = first_is list horizon.seconds times b f.seconds in
    let whole : p ≡ f.seconds ∷ later cuts horizon.seconds = e ∙ sym (seconds_are f cuts horizon) in
    rw whole (
      λ (few, fits, covers). ((times, b, few), record { first = first.1 fits.first; at_boundaries = λ i d l. (b.each _).0 (fits.inside (suc i) d (omega (arith, l))); covers = covers }),
      λ ((those, c, few), fit). (
        omega (arith, few, ap length (one_list_of_boundaries list horizon.seconds times those b c)),
        record {
          first = first.0 fit.first;
          last = ends_at (f ∷ cuts) horizon.seconds ∙ sym (last_is_horizon list horizon.seconds times b early);
          inside = All-cons (Contains times) f.seconds (later cuts horizon.seconds) ((b.each _).1 fit.first.is) (λ i d l. (b.each _).1 (fit.at_boundaries i d l));
        },
        fit.covers,
      ),
    )
