-- The turns of a history, as what happens to tails.
use Rattle.std.specs.Prelude.{ℕ, ◌==◌, Bool, List, map, reverse}
use Rattle.lists_tails.specs.declared.document.Turn.{Turn}
use Rattle.lists_tails.specs.Acts.{Act, Turns}
use Rattle.lists_tails.specs.Weights.{weight_of}

-- A document's turn, which gives it its weights.
abbrev pub act_of : Turn → Act
act_of x = Turns x.doc.0 x.at.seconds (λ w. weight_of w x.weights.items)

-- Turns in the order of a list, as acts, the last one first.
abbrev pub acts_of : List Turn → List Act
acts_of turns = reverse (map act_of turns)

-- The turn is of document d.
abbrev pub is_of : ℕ → Turn → Bool
is_of d x = x.doc.0 == d
