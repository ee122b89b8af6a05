-- What the lists of all words are seen as.
use Rattle.std.specs.Prelude.{ℕ, List}
use Rattle.lists_tails.specs.States.{TailState}

-- What is held for each word, and how many turns there were.
pub record Turned : Type 0 where
  pub tails : List TailState
  pub turns : ℕ
