-- Least plans, by their space.
use Rattle.std.specs.Prelude.{◌≡◌, ◌↔◌, ℕ, ◌-◌, ◌≤◌, List, [], ◌∷◌, ◌++◌, map, drop, length, slice_index, All, Contains}
use Rattle.std.proofs.Common.{arith, ap, sym, ◌∙◌, subst}
use Rattle.std.proofs.lemmas.List.Elements.{All-drop, All-weaker}
use Rattle.base_types.specs.declared.time.Time.{Time}
use Rattle.base_types.specs.declared.posting.Posting.{Posting}
use Rattle.base_types.specs.declared.fraction.Fraction.{Fraction}
use Rattle.base_commands.specs.declared.command.Kind.TheVariants.{Guarantee}
use Rattle.plans_partitions.specs.Boundaries.{AreBoundaries, IsBoundary}
use Rattle.plans_partitions.proofs.Ordering.{one_list_of_boundaries}
use Rattle.plans_partitions.proofs.Tables.{last_is_horizon}
use Rattle.plans_space.specs.Loads.{weights_by}
use Rattle.plans_space.specs.Plans.{IsBestUnder}
use Rattle.plans_partitions.specs.Partitions.{widest, space, Covers, IsFitting, IsLeast, IsPartition}
use Rattle.plans_kinds.specs.Plans.{IsBestPlan, IsGoodPlan, IsLeastPlan}
use Rattle.plans_kinds.proofs.GoodLemmas.{good_is_fit, keeps_guarantee}
use Rattle.plans_kinds.proofs.PlanLemmas.{ends_at, first_is, seconds_are}

-- what keeps a factor at boundaries in as little space as a least partition is least
least_by_space : (list : List Posting) (factor : Fraction) (times p q : List ℕ) (h : ℕ) → AreBoundaries list h times → IsFitting times p → Covers list factor (slice_index p 0) (drop 1 p) h → IsFitting times q
    → IsLeast list factor (slice_index q 0) (drop 1 q) h → space list (slice_index p 0) (drop 1 p) ≡ space list (slice_index q 0) (drop 1 q) → IsLeast list factor (slice_index p 0) (drop 1 p) h
least_by_space list factor times p q h are fits covers others least same = record {
  first = (first_is list h times are (slice_index p 0)).1 fits.first;
  at_boundaries = All-drop (IsBoundary list h) 1 p (All-weaker (Contains times) (IsBoundary list h) (λ x c. (are.each x).0 c) p fits.inside);
  covers = covers;
  least = λ other leads.
      let start : slice_index p 0 ≡ slice_index q 0 = fits.first ∙ sym others.first in
      let C : ℕ → Type 0 = λ f. Covers list factor f other h in
      omega (arith, same, least.least other (subst C start leads), ap (λ f. space list f other) start);
}

-- two least partitions take as much space
same_space : (list : List Posting) (factor : Fraction) (f g : ℕ) (cuts others : List ℕ) (h : ℕ) → f ≡ g → IsLeast list factor f cuts h → IsLeast list factor g others h → space list f cuts ≡ space list g others
same_space list factor f g cuts others h same one other =
    let C : ℕ → Type 0 = λ x. Covers list factor x cuts h in
    let D : ℕ → Type 0 = λ x. Covers list factor x others h in
    omega (arith, one.least others (subst D (sym same) other.covers), other.least cuts (subst C same one.covers), ap (λ x. space list x others) same, ap (λ x. space list x cuts) same)

-- the partition of a plan is least exactly where the plan is
plan_is : (list : List Posting) (factor : Fraction) (p : List ℕ) (cuts : List Time) (horizon : Time) → IsPartition p → p ≡ map (λ (t : Time). t.seconds) (cuts ++ horizon ∷ [])
    → IsLeastPlan list factor cuts horizon.seconds ↔ IsLeast list factor (slice_index p 0) (drop 1 p) horizon.seconds
plan_is list factor p [] horizon part e = absurd (omega (arith, part.many, ap (λ (l : List ℕ). length l) e))
plan_is list factor p (f ∷ cuts) horizon part e =
    let is : p ≡ f.seconds ∷ map (λ (t : Time). t.seconds) cuts ++ horizon.seconds ∷ [] = e ∙ sym (seconds_are f cuts horizon) in
    let L : List ℕ → Type 0 = λ l. IsLeast list factor (slice_index l 0) (drop 1 l) horizon.seconds in
    (λ least. subst L (sym is) least, λ least. subst L is least)

-- a partition that doesn't keep the factor at boundaries is no least plan
pub not_kept : (list : List Posting) (factor : Fraction) (times p : List ℕ) (cuts : List Time) (horizon : Time) → AreBoundaries list horizon.seconds times → All (λ p. p.span.to ≤ horizon.seconds) list
    → IsPartition p → p ≡ map (λ (t : Time). t.seconds) (cuts ++ horizon ∷ []) → ((length times ≤ widest) × IsFitting times p × Covers list factor (slice_index p 0) (drop 1 p) horizon.seconds → ⊥)
    → IsGoodPlan Guarantee list factor cuts horizon.seconds → ⊥
not_kept list factor times p cuts horizon are early part e none good = none ((keeps_guarantee list factor times p cuts horizon are early part e).1 (good_is_fit Guarantee list factor cuts horizon good))

-- one that does is, exactly where it takes as much space as a least one
pub kept : (list : List Posting) (factor : Fraction) (times p q : List ℕ) (cuts : List Time) (horizon : Time) → AreBoundaries list horizon.seconds times → IsPartition p → p ≡ map (λ (t : Time). t.seconds) (cuts ++ horizon ∷ [])
    → (length times ≤ widest) × IsFitting times p × Covers list factor (slice_index p 0) (drop 1 p) horizon.seconds → IsFitting times q → IsLeast list factor (slice_index q 0) (drop 1 q) horizon.seconds
    → (space list (slice_index p 0) (drop 1 p) ≡ space list (slice_index q 0) (drop 1 q)) ↔ IsGoodPlan Guarantee list factor cuts horizon.seconds
kept list factor times p q cuts horizon are part e keeps fits least = (
  (λ same. ((times, are, keeps.0), (plan_is list factor p cuts horizon part e).1 (least_by_space list factor times p q horizon.seconds are keeps.1 keeps.2 fits least same))),
  (λ good. same_space list factor (slice_index p 0) (slice_index q 0) (drop 1 p) (drop 1 q) horizon.seconds (keeps.1.first ∙ sym fits.first) ((plan_is list factor p cuts horizon part e).0 good.1) least),
)

-- ---- under a bound on space

-- the partition of a plan that begins at the first boundary is best exactly where the plan is
pub best_is : (load : ℕ → ℕ → ℕ) (list : List Posting) (factor : Fraction) (times p : List ℕ) (cuts : List Time) (horizon : Time) → AreBoundaries list horizon.seconds times → IsPartition p → p ≡ map (λ (t : Time). t.seconds) (cuts ++ horizon ∷ [])
    → slice_index p 0 ≡ slice_index times 0 → IsBestUnder list times (weights_by load times) factor (slice_index times 0) horizon.seconds (drop 1 p) ↔ IsBestPlan load list factor cuts horizon.seconds
best_is load list factor times p [] horizon are part e first = absurd (omega (arith, part.many, ap (λ (l : List ℕ). length l) e))
best_is load list factor times p (f ∷ cuts) horizon are part e first =
    let is : p ≡ f.seconds ∷ map (λ (t : Time). t.seconds) cuts ++ horizon.seconds ∷ [] = e ∙ sym (seconds_are f cuts horizon) in
    let begins : f.seconds ≡ slice_index times 0 = ap (λ (l : List ℕ). slice_index l 0) (sym is) ∙ first in
    let B : List ℕ → ℕ → List ℕ → Type 0 = λ ts x l. IsBestUnder list ts (weights_by load ts) factor x horizon.seconds l in
    let rest : drop 1 p ≡ map (λ (t : Time). t.seconds) cuts ++ horizon.seconds ∷ [] = ap (λ (l : List ℕ). drop 1 l) is in (
      (λ best. record { first = (first_is list horizon.seconds times are f.seconds).1 begins; times = times; times_are = are; best = subst (λ x. B times x (map (λ (t : Time). t.seconds) cuts ++ horizon.seconds ∷ [])) (sym begins) (subst (λ (l : List ℕ). B times (slice_index times 0) l) rest best) }),
      (λ plan.
          let one : plan.times ≡ times = one_list_of_boundaries list horizon.seconds plan.times times plan.times_are are in
          subst (λ (l : List ℕ). B times (slice_index times 0) l) (sym rest) (subst (λ x. B times x (map (λ (t : Time). t.seconds) cuts ++ horizon.seconds ∷ [])) begins
          (subst (λ (ts : List ℕ). B ts f.seconds (map (λ (t : Time). t.seconds) cuts ++ horizon.seconds ∷ [])) one plan.best))),
    )

-- a plan that is best begins at the first boundary, and ends at the last
pub best_spans : (load : ℕ → ℕ → ℕ) (list : List Posting) (factor : Fraction) (times p : List ℕ) (cuts : List Time) (horizon : Time) → AreBoundaries list horizon.seconds times → All (λ p. p.span.to ≤ horizon.seconds) list
    → p ≡ map (λ (t : Time). t.seconds) (cuts ++ horizon ∷ []) → IsBestPlan load list factor cuts horizon.seconds
    → (slice_index p 0 ≡ slice_index times 0) × (slice_index p (length p - 1) ≡ slice_index times (length times - 1))
best_spans load list factor times p [] horizon are early e plan = absurd plan
best_spans load list factor times p (f ∷ cuts) horizon are early e plan =
    let is : p ≡ f.seconds ∷ map (λ (t : Time). t.seconds) cuts ++ horizon.seconds ∷ [] = e ∙ sym (seconds_are f cuts horizon) in (
      ap (λ (l : List ℕ). slice_index l 0) is ∙ (first_is list horizon.seconds times are f.seconds).0 plan.first,
      ap (λ (l : List ℕ). slice_index l (length l - 1)) is ∙ ends_at (f ∷ cuts) horizon.seconds ∙ sym (last_is_horizon list horizon.seconds times are early),
    )
