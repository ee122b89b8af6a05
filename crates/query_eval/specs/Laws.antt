-- What follows from the definition of answers.
use Rattle.std.specs.Prelude.{◌≡◌, ℕ, ◌<◌, Bool, true, false, List, [], length, get_or, All, Contains}
use Rattle.base_types.specs.declared.ids.DocId.{DocId}
use Rattle.query_lang.specs.Grammar.{Query}
use Rattle.query_lang.specs.Meaning.{matches, words_of}
use Rattle.query_eval.specs.Answers.{IsAnswer}
use Rattle.query_eval.specs.declared.answer.Row.{Row}

-- each query has an answer over any documents
abbrev pub EachQueryHasAnAnswer : Type 0
EachQueryHasAnAnswer = (alive : List DocId) (often : DocId → List ℕ → ℕ) (query : Query)
    → (rows : List Row) × IsAnswer (λ doc. Contains alive doc) often query rows

-- a query has one answer
abbrev pub AnAnswerIsOne : Type 0
AnAnswerIsOne =
    (is_alive : DocId → Bool) (often : DocId → List ℕ → ℕ) (query : Query) (one other : List Row)
    → IsAnswer (λ doc. is_alive doc ≡ true) often query one → IsAnswer (λ doc. is_alive doc ≡ true) often query other → one ≡ other

-- frequencies that are the same for the query's words have one answer
abbrev pub OnlyWordsMatter : Type 0
OnlyWordsMatter =
    (is_alive : DocId → Bool) (often other : DocId → List ℕ → ℕ) (query : Query) (rows : List Row)
    → ((doc : DocId) → All (λ w. often doc w ≡ other doc w) (words_of query))
    → IsAnswer (λ doc. is_alive doc ≡ true) often query rows → IsAnswer (λ doc. is_alive doc ≡ true) other query rows

-- Where a text that has none of the words doesn't match, the answer over those documents alive that have one of the words is the
-- answer over all documents alive.
abbrev pub OnlyHitsMatter : Type 0
OnlyHitsMatter =
    (is_alive is_given : DocId → Bool) (often : DocId → List ℕ → ℕ) (query : Query) (rows : List Row) → matches query (λ _. 0) ≡ false
    → ((doc : DocId) → is_given doc ≡ true → is_alive doc ≡ true)
    → ((doc : DocId) (k : ℕ) → is_alive doc ≡ true → k < length (words_of query) → 0 < often doc (get_or (words_of query) k [])
    → is_given doc ≡ true)
    → IsAnswer (λ doc. is_given doc ≡ true) often query rows → IsAnswer (λ doc. is_alive doc ≡ true) often query rows
