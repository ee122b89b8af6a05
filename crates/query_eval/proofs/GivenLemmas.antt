-- What an answer depends on: the documents with a word, the frequencies of the words.
use Rattle.std.proofs.Common.{◌≡◌, ◌⊎◌, ◌↔◌, ℕ, zero, suc, ◌<◌, ◌≤◌, true, false, List, [], ◌∷◌, length, get_or, All, sym, ◌∙◌, arith, inl, inr}
use Rattle.std.proofs.lemmas.Bool.{cases_lt}
use Rattle.base_types.specs.declared.ids.DocId.{DocId}
use Rattle.query_lang.specs.Grammar.{Query}
use Rattle.query_lang.specs.Meaning.{matches, score, words_of}
use Rattle.query_lang.proofs.Deciding.{agreeing, matches-same, score-same}
use Rattle.query_eval.specs.Answers.{IsAnswer}
use Rattle.query_eval.specs.declared.answer.Row.{Row}
use Rattle.query_eval.proofs.Ranks.{one_order}

some-word : (often : List ℕ → ℕ) (words : List (List ℕ)) → All (λ w. often w ≡ 0) words ⊎ ((k : ℕ) × (k < length words) × (0 < often (get_or words k [])))
some-word often [] = inl (λ k d l. absurd (omega (arith, l)))
some-word often (w ∷ words) = go (cases_lt 0 (often w)) (some-word often words)
  where
    go : (0 < often w) ⊎ (often w ≤ 0) → All (λ w. often w ≡ 0) words ⊎ ((k : ℕ) × (k < length words) × (0 < often (get_or words k [])))
        → All (λ w. often w ≡ 0) (w ∷ words) ⊎ ((k : ℕ) × (k < length (w ∷ words)) × (0 < often (get_or (w ∷ words) k [])))
    go (inl h) r = inr (0, omega arith, h)
    go (inr h) (inr (k, l, m)) = inr (suc k, omega (arith, l), m)
    go (inr h) (inl a) = inl each
      where
        each : All (λ w. often w ≡ 0) (w ∷ words)
        each zero d l = omega (arith, h)
        each (suc k) d l = a k d (omega (arith, l))

pub has-word : (often : List ℕ → ℕ) (query : Query) → matches query (λ _. 0) ≡ false → matches query often ≡ true → (k : ℕ) × (k < length (words_of query)) × (0 < often (get_or (words_of query) k []))
has-word often query bare m = go (some-word often (words_of query))
  where
    go : All (λ w. often w ≡ 0) (words_of query) ⊎ ((k : ℕ) × (k < length (words_of query)) × (0 < often (get_or (words_of query) k []))) → (k : ℕ) × (k < length (words_of query)) × (0 < often (get_or (words_of query) k []))
    go (inr s) = s
    go (inl a) = absurd (let same = sym m ∙ matches-same often (λ _. 0) query (agreeing often (λ _. 0) query a) ∙ bare in cc)

pub only_hits_matter : (IsAlive IsGiven : DocId → Type 0) (often : DocId → List ℕ → ℕ) (query : Query) (rows : List Row) → matches query (λ _. 0) ≡ false
    → ((doc : DocId) → IsGiven doc → IsAlive doc)
    → ((doc : DocId) (k : ℕ) → IsAlive doc → k < length (words_of query) → 0 < often doc (get_or (words_of query) k []) → IsGiven doc)
    → IsAnswer IsGiven often query rows → IsAnswer IsAlive often query rows
only_hits_matter IsAlive IsGiven often query rows bare some all a = record {
  ranked = a.ranked;
  each = λ row. (
    λ c. let r = (a.each row).0 c in record { alive = some row.doc r.alive; matching = r.matching; scored = r.scored },
    λ r. let h = has-word (often row.doc) query bare r.matching in (a.each row).1 (record { alive = all row.doc h.0 r.alive h.1 h.2; matching = r.matching; scored = r.scored }),
  );
}

-- an answer by frequencies that the query's words have too
pub only_words_matter : (IsAlive : DocId → Type 0) (often other : DocId → List ℕ → ℕ) (query : Query) (rows : List Row) → ((doc : DocId) → All (λ w. often doc w ≡ other doc w) (words_of query))
    → IsAnswer IsAlive often query rows → IsAnswer IsAlive other query rows
only_words_matter IsAlive often other query rows same a = record {
  ranked = a.ranked;
  each = λ row. (
    λ c. let r = (a.each row).0 c in record { alive = r.alive; matching = sym (matched row.doc) ∙ r.matching; scored = r.scored ∙ scored row.doc },
    λ r. (a.each row).1 (record { alive = r.alive; matching = matched row.doc ∙ r.matching; scored = r.scored ∙ sym (scored row.doc) }),
  );
}
  where
    matched : (doc : DocId) → matches query (often doc) ≡ matches query (other doc)
    matched doc = matches-same (often doc) (other doc) query (agreeing (often doc) (other doc) query (same doc))

    scored : (doc : DocId) → score query (often doc) ≡ score query (other doc)
    scored doc = score-same (often doc) (other doc) query (same doc)

-- an answer over the documents that are alive
pub same_alive : (IsAlive IsGiven : DocId → Type 0) (often : DocId → List ℕ → ℕ) (query : Query) (rows : List Row) → ((doc : DocId) → (IsGiven doc ↔ IsAlive doc))
    → IsAnswer IsGiven often query rows → IsAnswer IsAlive often query rows
same_alive IsAlive IsGiven often query rows same a = record {
  ranked = a.ranked;
  each = λ row. (
    λ c. let r = (a.each row).0 c in record { alive = (same row.doc).0 r.alive; matching = r.matching; scored = r.scored },
    λ r. (a.each row).1 (record { alive = (same row.doc).1 r.alive; matching = r.matching; scored = r.scored }),
  );
}

-- a query has one answer, whatever is alive
pub one_answer : (IsAlive : DocId → Type 0) (often : DocId → List ℕ → ℕ) (query : Query) (one other : List Row) → IsAnswer IsAlive often query one → IsAnswer IsAlive often query other → one ≡ other
one_answer IsAlive often query one other a b = one_order one other a.ranked b.ranked (λ row. (λ c. (b.each row).1 ((a.each row).0 c), λ c. (a.each row).1 ((b.each row).0 c)))
