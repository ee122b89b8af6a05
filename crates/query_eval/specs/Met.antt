-- The documents that have a posting in a window of time.
use Rattle.std.specs.Prelude.{◌≡◌, ℕ, true, List, [], ◌∷◌, ◌++◌, map, Contains}
use Rattle.base_types.specs.declared.ids.DocId.{DocId}
use Rattle.base_types.specs.declared.posting.Posting.{Posting}
use Rattle.lists_postings.specs.Lists.{meets, sublist}
use Rattle.query_eval.specs.declared.part.Part.{Part}

-- a posting of one of the parts is the document's, and has a time in [a, b)
pub record IsMet (parts : List Part) (a b : ℕ) (doc : DocId) : Type 0 where
  pub part : Part
  pub given : Contains parts part
  pub posting : Posting
  pub listed : Contains part.list.items posting
  pub of : posting.doc ≡ doc
  pub within : meets a b posting ≡ true

-- the documents of the postings of a list that have a time in [a, b), and of those of all parts
abbrev pub met_in : ℕ → ℕ → List Posting → List DocId
met_in a b list = map (λ p. p.doc) (sublist a b list)

abbrev pub all_met : ℕ → ℕ → List Part → List DocId
all_met a b [] = []
all_met a b (part ∷ parts) = met_in a b part.list.items ++ all_met a b parts
