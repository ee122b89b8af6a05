-- What a check tells of a history whose texts are UTF-8, where the pages hold the sublists of its live plans.
use Rattle.std.specs.Prelude.{◌≡◌, ℕ, ◌<◌, List, [], ◌∷◌, ◌++◌, length, All}
use Rattle.base_types.specs.declared.fraction.Fraction.{Fraction}
use Rattle.base_types.specs.declared.posting.Posting.{Posting}
use Rattle.base_types.specs.declared.time.Time.{Time}
use Rattle.base_commands.specs.declared.command.Kind.TheVariants.{Guarantee}
use Rattle.plans_partitions.specs.Partitions.{IsBest}
use Rattle.plans_kinds.specs.Plans.{IsLeastPlan, plan_space}
use Rattle.journal_entries.specs.declared.plan.PlanEntry.{PlanEntry}
use Rattle.model_archive.specs.declared.stored.StoredPlan.{StoredPlan}
use Rattle.model_archive.specs.declared.verdict.Verdict.{Verdict}
use Rattle.model_archive.specs.declared.verdict.Verdict.TheVariants.{Sound, NotLeast}
use Rattle.model_archive.specs.Histories.{History, vocabulary}
use Rattle.model_archive.specs.Orders.{AreByNumber}
use Rattle.model_archive.specs.Planning.{IsListUpTo}
use Rattle.model_archive.specs.Plans.{live_plans, segments_of}

-- the least space of a partition that keeps the factor, from the first of these cuts to the horizon
abbrev pub IsLeastSpace : List Posting → Fraction → List Time → ℕ → ℕ → Type 0
IsLeastSpace list factor [] h least = ⊥
IsLeastSpace list factor (f ∷ cuts) h least = IsBest list factor h f.seconds h least

-- the plan is a least one, if it keeps to a guarantee
abbrev pub TakesLeast : History → PlanEntry → Type 0
TakesLeast history plan = plan.kind ≡ Guarantee → (list : List Posting) → IsListUpTo history plan.word plan.horizon.seconds list
    → IsLeastPlan list plan.fraction plan.cuts plan.horizon.seconds

-- the plan keeps to a guarantee, and takes so many postings where the least would do
pub record Wastes (taken least : ℕ) (history : History) (plan : PlanEntry) : Type 0 where
  pub guarantee : plan.kind ≡ Guarantee
  pub list : List Posting
  pub list_is : IsListUpTo history plan.word plan.horizon.seconds list
  pub taken_is : taken ≡ plan_space list plan.cuts plan.horizon.seconds
  pub least_is : IsLeastSpace list plan.fraction plan.cuts plan.horizon.seconds least
  pub more : least < taken

-- of these plans that of this word is the first that does
pub record IsFirstToWaste (word : List ℕ) (taken least : ℕ) (history : History) (plans : List StoredPlan) : Type 0 where
  pub front : List StoredPlan
  pub stored : StoredPlan
  pub back : List StoredPlan
  pub plans_are : plans ≡ front ++ stored ∷ back
  pub spare : All (λ s. TakesLeast history s.plan) front
  pub word_is : word ≡ stored.plan.word
  pub there : Wastes taken least history stored.plan

-- what a verdict says of a history's live plans in this order
abbrev pub Judges : History → List StoredPlan → Verdict → Type 0
Judges history plans (Sound words segments) = All (λ s. TakesLeast history s.plan) plans × (words ≡ length (live_plans history))
    × (segments ≡ segments_of (live_plans history))
Judges history plans (NotLeast word taken least) = IsFirstToWaste word taken least history plans
Judges history plans other = ⊥

-- what is told of a history: its live plans are judged by the numbers of their words
abbrev pub Verifies : History → Verdict → Type 0
Verifies history verdict = (ordered : List StoredPlan) × AreByNumber (vocabulary history) (live_plans history) ordered
    × Judges history ordered verdict

-- that all is as it should be: so many words have a live plan, and these have so many segments
abbrev pub sound_of : History → Verdict
sound_of history = Sound (length (live_plans history)) (segments_of (live_plans history))
