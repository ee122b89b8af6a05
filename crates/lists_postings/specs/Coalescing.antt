-- How far a list is coalesced.
use Rattle.std.specs.Prelude.{List, [], ◌∷◌, ◌++◌}
use Rattle.base_types.specs.declared.posting.Posting.{Posting}
use Rattle.lists_postings.specs.Lists.{IsList, IsCoalesced, SameRows}

-- The postings done and the one that may still grow are coalesced, and with those left have the rows of the list.
pub record IsUnderWay (list done : List Posting) (current : Posting) (left : List Posting) : Type 0 where
  pub ordered : IsList (done ++ current ∷ left)
  pub coalesced : IsCoalesced (done ++ current ∷ [])
  pub same : SameRows (done ++ current ∷ left) list
