-- Live plans: which of them a word has.
use Rattle.std.specs.Prelude.{◌≡◌, ℕ, ◌<◌, true, List, [], ◌∷◌, take, length, get_or, All}
use Rattle.model_archive.specs.declared.stored.StoredPlan.{StoredPlan}
use Rattle.model_archive.specs.Plans.{is_another}

-- each plan is of another word than those behind it
abbrev pub EachOnce : List StoredPlan → Type 0
EachOnce [] = Unit {0}
EachOnce (stored ∷ plans) = All (λ other. is_another stored.plan.word other ≡ true) plans × EachOnce plans

-- the word's plan stands there, and no other one of the word in front of it
pub record IsPlanAt (plans : List StoredPlan) (word : List ℕ) (at : ℕ) : Type 0 where
  pub within : at < length plans
  pub is : (stored : StoredPlan) → (get_or plans at stored).plan.word ≡ word
  pub before : All (λ other. is_another word other ≡ true) (take at plans)
