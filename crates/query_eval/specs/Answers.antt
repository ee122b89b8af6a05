-- What the answer to a query is.
use Rattle.std.specs.Prelude.{◌≡◌, ◌⊎◌, ◌↔◌, ℕ, ◌<◌, true, List, Contains}
use Rattle.base_types.specs.declared.ids.DocId.{DocId}
use Rattle.lists_postings.specs.Lists.{EachNext}
use Rattle.query_lang.specs.Grammar.{Query}
use Rattle.query_lang.specs.Meaning.{matches, score}
use Rattle.query_eval.specs.declared.answer.Row.{Row}

-- the row of a higher score comes first, and of two with one score that of the earlier document
abbrev pub RanksBefore : Row → Row → Type 0
RanksBefore a b = (b.score < a.score) ⊎ ((a.score ≡ b.score) × (a.doc.0 < b.doc.0))

-- the rows are in their order, and so no document has two
abbrev pub AreRanked : List Row → Type 0
AreRanked rows = EachNext RanksBefore rows

-- A document that is alive and matches has this row. Which documents are alive, and how often each has each word, is given.
pub record IsRow (IsAlive : DocId → Type 0) (often : DocId → List ℕ → ℕ) (query : Query) (row : Row) : Type 0 where
  pub alive : IsAlive row.doc
  pub matching : matches query (often row.doc) ≡ true
  pub scored : row.score ≡ score query (often row.doc)

-- the answer to a query: the rows of the documents that are alive and match, and no others, in their order
pub record IsAnswer (IsAlive : DocId → Type 0) (often : DocId → List ℕ → ℕ) (query : Query) (rows : List Row) : Type 0 where
  pub ranked : AreRanked rows
  pub each : (row : Row) → (Contains rows row ↔ IsRow IsAlive often query row)
