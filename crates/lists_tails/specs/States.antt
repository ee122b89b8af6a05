-- What a tail holds.
use Rattle.std.specs.Prelude.{ℕ, List}
use Rattle.base_types.specs.declared.posting.Posting.{Posting}

-- The postings of one word's tail, and how many more fit in without memory.
pub record TailState : Type 0 where
  pub list : List Posting
  pub room : ℕ
