-- How often a document has each word.
use Rattle.std.specs.Prelude.{ℕ, ◌<◌, ◌==◌, if◌then◌else◌, List, [], ◌∷◌}
use Rattle.lists_postings.specs.Lists.{EachNext}
use Rattle.lists_tails.specs.declared.weight.Weight.{Weight}

-- A list of weights: the words ascend strictly.
abbrev pub AreWeights : List Weight → Type 0
AreWeights weights = EachNext (λ x y. x.word.number < y.word.number) weights

-- The frequency of word w by the weights, or 0.
abbrev pub weight_of : ℕ → List Weight → ℕ
weight_of w [] = 0
weight_of w (x ∷ weights) = if (x.word.number == w) then x.tf else weight_of w weights
