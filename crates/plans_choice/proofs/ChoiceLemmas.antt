-- Partitions as plans.
use Rattle.std.proofs.Common.{Option, ◌≡◌, ℕ, ◌+◌, ◌-◌, ◌^◌, ◌<◌, ◌≤◌, List, [], ◌∷◌, ◌++◌, length, map, take, drop, ap, sym, subst, ◌∙◌, arith}
use Rattle.std.specs.Prelude.{slice_index}
use Rattle.std.specs.List.Sorted.{IsStrictlyIncreasing}
use Rattle.std.proofs.lemmas.List.{get_or-take, length-take, length-drop}
use Rattle.std.proofs.lemmas.List.Elements.{Contains-get_or}
use Rattle.base_types.specs.declared.fraction.Fraction.{Fraction}
use Rattle.base_types.specs.declared.posting.Posting.{Posting}
use Rattle.base_types.specs.declared.time.Span.{Span}
use Rattle.base_types.specs.declared.time.Time.{Time}
use Rattle.base_commands.specs.declared.command.Kind.{Kind}
use Rattle.base_commands.specs.declared.command.Kind.TheVariants.{Guarantee, Uniform, Since}
use Rattle.plans_partitions.specs.Boundaries.{IsBoundary}
use Rattle.plans_partitions.specs.Counts.{Counts, Tabulates}
use Rattle.plans_partitions.specs.Partitions.{widest, IsFitting, IsLeast, space}
use Rattle.plans_partitions.proofs.Narrow.{narrow}
use Rattle.plans_partitions.proofs.Places.{rises}
use Rattle.plans_partitions.proofs.Tables.{some_time, first_le, last_is_horizon}
use Rattle.plans_space.specs.Costs.{expected_cost}
use Rattle.plans_space.specs.Loads.{AreWeights}
use Rattle.plans_space.specs.Plans.{IsBestUnder}
use Rattle.plans_space.proofs.FunctionLemmas.{by_function}
use Rattle.plans_space.proofs.ShortLemmas.{short}
use Rattle.plans_kinds.specs.Plans.{IsBestPlan, IsPlanCost, IsGoodPlan, IsCostOf, each_second, each_second_since, plan_space}
use Rattle.plans_choice.specs.Bests.{IsBestFor, IsChosenFor}

-- ---- cuts as times

-- each cut but the last lies before the last
pub early_cut : (cuts : List ℕ) (horizon k : ℕ) → IsStrictlyIncreasing cuts → slice_index cuts (length cuts - 1) ≡ horizon → k < length (take (length cuts - 1) cuts) → slice_index (take (length cuts - 1) cuts) k < horizon
early_cut cuts horizon k up last below =
    let inside : k < length cuts - 1 = omega (arith, length-take (length cuts - 1) cuts) in
    omega (arith, rises cuts up k (length cuts - 1) inside (omega arith), last, get_or-take (length cuts - 1) cuts k 0 inside)

-- the last cut is the horizon
pub last_cut : (list : List Posting) (horizon : ℕ) (table : Counts) (cuts : List ℕ) → Tabulates list horizon table → IsFitting table.boundaries cuts → slice_index cuts (length cuts - 1) ≡ horizon
last_cut list horizon table cuts t fits = fits.last ∙ last_is_horizon list horizon table.boundaries t.boundaries t.early

-- the space of a partition is that of the plan
pub space_of : (list : List Posting) (p : List ℕ) (cuts : List Time) (h n : ℕ) → 0 < length cuts → map (λ (t : Time). t.seconds) cuts ++ h ∷ [] ≡ p
    → n ≡ space list (slice_index p 0) (drop 1 p) → n ≡ plan_space list cuts h
space_of list p [] h n some same is = absurd (omega (arith, some))
space_of list p (f ∷ cuts) h n some same is = is ∙ ap (λ (p : List ℕ). space list (slice_index p 0) (drop 1 p)) (sym same)

-- ---- least ones

-- a least partition of a list with few enough boundaries has few cuts
pub few_cuts : (list : List Posting) (factor : Fraction) (horizon : ℕ) (table : Counts) (cuts : List ℕ) → Tabulates list horizon table → 2 ≤ length cuts → length table.boundaries ≤ widest
    → IsLeast list factor (slice_index cuts 0) (drop 1 cuts) horizon → length cuts ≤ 2 ^ 24 + 1
few_cuts list factor horizon table cuts t many within least =
    let few = narrow list factor horizon table.boundaries (slice_index cuts 0) (drop 1 cuts) horizon t.boundaries least.first.is least.at_boundaries least.covers in
    omega (arith, few.1, within, length-drop 1 cuts)

-- ---- best ones

-- a best partition by the answers of a load that answers by a function
pub best_by_function : (Answers : Span → ℕ → Type 0) (weight : ℕ → ℕ → ℕ) (table : Counts) (factor : Fraction) (cuts weights : List ℕ) (cost : ℕ) → ((span : Span) (n : ℕ) → Answers span n → n ≡ weight span.from span.to)
    → AreWeights Answers table.boundaries weights
    → ((list : List Posting) (horizon : ℕ) → Tabulates list horizon table → IsBestUnder list table.boundaries weights factor (slice_index cuts 0) horizon (drop 1 cuts)
    × (cost ≡ expected_cost list (slice_index cuts 0) (drop 1 cuts) table.boundaries weights)) → IsBestFor weight table factor cuts cost
best_by_function Answers weight table factor cuts weights cost answers are best =
    subst (λ (ws : List ℕ). (list : List Posting) (horizon : ℕ) → Tabulates list horizon table → IsBestUnder list table.boundaries ws factor (slice_index cuts 0) horizon (drop 1 cuts)
    × (cost ≡ expected_cost list (slice_index cuts 0) (drop 1 cuts) table.boundaries ws))
    (by_function Answers weight table.boundaries weights answers are) best

-- it has few cuts
pub few_best : (load : ℕ → ℕ → ℕ) (list : List Posting) (factor : Fraction) (horizon : ℕ) (table : Counts) (cuts : List ℕ) (cost : ℕ) → Tabulates list horizon table → IsFitting table.boundaries cuts
    → IsBestFor load table factor cuts cost → length cuts ≤ 2 ^ 24 + 1
few_best load list factor horizon table cuts cost t fits best =
    omega (arith, short list table.boundaries factor (slice_index cuts 0) horizon (drop 1 cuts) t.boundaries.ascending (sym fits.first) (best list horizon t).0.eligible, length-drop 1 cuts)

-- and its cuts are a best plan with its cost
pub best_plan_of : (load : ℕ → ℕ → ℕ) (list : List Posting) (factor : Fraction) (h : ℕ) (table : Counts) (p : List ℕ) (cuts : List Time) (cost : ℕ) → Tabulates list h table → IsFitting table.boundaries p → 0 < length cuts
    → map (λ (t : Time). t.seconds) cuts ++ h ∷ [] ≡ p → IsBestFor load table factor p cost → IsBestPlan load list factor cuts h × IsPlanCost load list cuts h cost
best_plan_of load list factor h table p [] cost t fits some same best = absurd (omega (arith, some))
best_plan_of load list factor h table p (f ∷ cuts) cost t fits some same best =
    let here = subst (λ (p : List ℕ). IsBestFor load table factor p cost) (sym same) best list h t in
    let first : f.seconds ≡ slice_index table.boundaries 0 = ap (λ (p : List ℕ). slice_index p 0) same ∙ fits.first in (
      record {
        first = record {
          is = subst (λ x. IsBoundary list h x) (sym first) ((t.boundaries.each _).0 (Contains-get_or table.boundaries 0 0 (some_time list h table.boundaries t.boundaries)));
          none_before = λ x c. omega (arith, first, first_le table.boundaries t.boundaries.ascending x ((t.boundaries.each x).1 c));
        };
        times = table.boundaries;
        times_are = t.boundaries;
        best = here.0;
      },
      (table.boundaries, t.boundaries, here.1),
    )

-- each second from the first on is each second
pub since_first : each_second_since 0 ≡ each_second
since_first = λ i f g. since_nought f g i
  where
    since_nought : (f g : ℕ) → each_second_since 0 f g ≡ each_second f g
    since_nought f g = ap (λ n. g - n) (omega arith)

-- ---- by the kind

-- what is chosen has few cuts
pub few_chosen : (kind : Kind) (list : List Posting) (factor : Fraction) (horizon : ℕ) (table : Counts) (cuts : List ℕ) (cost : Option ℕ) → Tabulates list horizon table → IsFitting table.boundaries cuts → 2 ≤ length cuts
    → IsChosenFor kind table factor cuts cost → length cuts ≤ 2 ^ 24 + 1
few_chosen Guarantee list factor horizon table cuts cost t fits many (none, within, least) = few_cuts list factor horizon table cuts t many within (least list horizon t)
few_chosen Uniform list factor horizon table cuts cost t fits many (n, is, best) = few_best each_second list factor horizon table cuts n t fits best
few_chosen (Since at) list factor horizon table cuts cost t fits many (n, is, best) = few_best (each_second_since at.seconds) list factor horizon table cuts n t fits best

-- and makes a plan that is what its kind promises, with its cost
pub good_of : (kind : Kind) (list : List Posting) (factor : Fraction) (h : ℕ) (table : Counts) (p : List ℕ) (cuts : List Time) (cost : Option ℕ) → Tabulates list h table → IsFitting table.boundaries p → 0 < length cuts
    → map (λ (t : Time). t.seconds) cuts ++ h ∷ [] ≡ p → IsChosenFor kind table factor p cost → IsGoodPlan kind list factor cuts h × IsCostOf kind list cuts h cost
good_of kind list factor h table p [] cost t fits some same chosen = absurd (omega (arith, some))
good_of Guarantee list factor h table p (f ∷ cuts) cost t fits some same (none, within, least) =
    (((table.boundaries, t.boundaries, within), subst (λ (p : List ℕ). IsLeast list factor (slice_index p 0) (drop 1 p) h) (sym same) (least list h t)), none)
good_of Uniform list factor h table p (f ∷ cuts) cost t fits some same (n, is, best) =
    let (plan, takes) = best_plan_of each_second list factor h table p (f ∷ cuts) n t fits some same best in (plan, (n, takes, is))
good_of (Since at) list factor h table p (f ∷ cuts) cost t fits some same (n, is, best) =
    let (plan, takes) = best_plan_of (each_second_since at.seconds) list factor h table p (f ∷ cuts) n t fits some same best in (plan, (n, takes, is))
