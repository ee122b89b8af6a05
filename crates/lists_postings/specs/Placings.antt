-- How two postings of two lists stand to each other, and how far a merge of the lists has come.
use Rattle.std.specs.Prelude.{◌≡◌, ◌⊎◌, List, ◌++◌, Contains}
use Rattle.base_types.specs.declared.posting.Posting.{Posting}
use Rattle.lists_postings.specs.Lists.{IsList, ComesBefore}
use Rattle.lists_postings.specs.Unions.{Clashes}
use Rattle.lists_postings.specs.declared.merge.Placing.{Placing}
use Rattle.lists_postings.specs.declared.merge.Placing.TheVariants.{Same, Before, After, Clash}

-- What an answer on two postings says of them.
abbrev pub IsPlacing : Posting → Posting → Placing → Type 0
IsPlacing p q Same = p ≡ q
IsPlacing p q Before = ComesBefore p q
IsPlacing p q After = ComesBefore q p
IsPlacing p q Clash = Clashes p q

-- What is done of a merge, and what of the two lists is left.
pub record AreMerged (one other done left right : List Posting) : Type 0 where
  pub first : IsList (done ++ left)
  pub second : IsList (done ++ right)
  pub done_of : (p : Posting) → Contains done p → Contains one p ⊎ Contains other p
  pub left_of : (p : Posting) → Contains left p → Contains one p
  pub right_of : (p : Posting) → Contains right p → Contains other p
  pub one_in : (p : Posting) → Contains one p → Contains done p ⊎ Contains left p
  pub other_in : (p : Posting) → Contains other p → Contains done p ⊎ Contains right p
