-- The order in which plans are checked: by the numbers of their words, which are their places among the words of the texts.
use Rattle.std.specs.Prelude.{◌≡◌, ◌==◌, ℕ, bytes_eq, List, filter}
use Rattle.std.specs.List.{position_or_len}
use Rattle.std.specs.List.Sorted.{IsNonDecreasingBy}
use Rattle.model_archive.specs.declared.stored.StoredPlan.{StoredPlan}

-- the place of a plan's word among words, the first being 0; how many words there are, where it is none of them
abbrev pub place_of : List (List ℕ) → StoredPlan → ℕ
place_of words stored = position_or_len (bytes_eq stored.plan.word) words

-- these are the plans by the places of their words, with those of no such word last; plans of one place stand in the order in which they stood
pub record AreByNumber (words : List (List ℕ)) (plans ordered : List StoredPlan) : Type 0 where
  pub ascending : IsNonDecreasingBy (place_of words) ordered
  pub same : (n : ℕ) → filter (λ s. place_of words s == n) ordered ≡ filter (λ s. place_of words s == n) plans
