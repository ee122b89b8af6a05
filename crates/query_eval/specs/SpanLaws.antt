-- What follows from the definition of answers over a window.
use Rattle.std.specs.Prelude.{◌≡◌, ◌↔◌, ℕ, ◌^◌, ◌<◌, ◌≤◌, Bool, true, false, List, [], length, get_or, Contains}
use Rattle.base_types.specs.declared.ids.DocId.{DocId}
use Rattle.lists_postings.specs.Stretches.{IsLongest}
use Rattle.query_lang.specs.Grammar.{Query}
use Rattle.query_lang.specs.Meaning.{matches, words_of}
use Rattle.query_eval.specs.Found.{HasHit}
use Rattle.query_eval.specs.Met.{IsMet}
use Rattle.query_eval.specs.Spans.{row_kind, scored_at, IsSpanAnswer}
use Rattle.query_eval.specs.declared.part.Part.{Part}
use Rattle.query_eval.specs.declared.spans.SpanRow.{SpanRow}

-- a query has one answer over a window
abbrev pub ASpanAnswerIsOne : Type 0
ASpanAnswerIsOne =
    (alive : DocId → ℕ → Bool) (often : DocId → ℕ → List ℕ → ℕ) (query : Query) (a b : ℕ) (one other : List SpanRow)
    → IsSpanAnswer alive often query a b one → IsSpanAnswer alive often query a b other → one ≡ other

-- it has one over each window of time, where no document from some number on is ever alive
abbrev pub EachWindowHasAnAnswer : Type 0
EachWindowHasAnAnswer =
    (alive : DocId → ℕ → Bool) (often : DocId → ℕ → List ℕ → ℕ) (query : Query) (documents a b : ℕ) → b ≤ 2 ^ 40
    → ((doc : DocId) (t : ℕ) → documents ≤ doc.0 → alive doc t ≡ false) → (rows : List SpanRow) × IsSpanAnswer alive often query a b rows

-- its rows are the longest stretches of one score, and no other
abbrev pub SpanRowsAreTheLongest : Type 0
SpanRowsAreTheLongest =
    (alive : DocId → ℕ → Bool) (often : DocId → ℕ → List ℕ → ℕ) (query : Query) (a b : ℕ) (rows : List SpanRow)
    → IsSpanAnswer alive often query a b rows
    → (row : SpanRow) → Contains rows row ↔ IsLongest row_kind (scored_at alive often query) a b row

-- a document that has one of the words at a time of a window, by the parts that were answered for them, has a posting in the window
abbrev pub HitsAreMet : Type 0
HitsAreMet = (words : List (List ℕ)) (parts : List Part) (a b t : ℕ) (doc : DocId) → a ≤ t → t < b → HasHit words parts t doc
    → IsMet parts a b doc

-- Where a text that has none of the words doesn't match, the answer over a window by documents alive, among which is at each time each one alive
-- that has one of the words, is the answer by all documents alive.
abbrev pub OnlyHitsMatterOver : Type 0
OnlyHitsMatterOver =
    (alive given : DocId → ℕ → Bool) (often : DocId → ℕ → List ℕ → ℕ) (query : Query) (a b : ℕ) (rows : List SpanRow)
    → matches query (λ _. 0) ≡ false
    → ((doc : DocId) (t : ℕ) → a ≤ t → t < b → given doc t ≡ true → alive doc t ≡ true)
    → ((doc : DocId) (t k : ℕ) → a ≤ t → t < b → alive doc t ≡ true → k < length (words_of query)
    → 0 < often doc t (get_or (words_of query) k []) → given doc t ≡ true)
    → IsSpanAnswer given often query a b rows → IsSpanAnswer alive often query a b rows
