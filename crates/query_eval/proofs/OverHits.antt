-- Rows over time by hits alone: a document counts as alive where it has a hit.
use Rattle.std.specs.Prelude.{◌≡◌, ℕ, ◌+◌, ◌<◌, ◌≤◌, ◌||◌, Bool, true, false, if◌then◌else◌, List, [], ◌∷◌, ◌++◌, length, get_or, filter, map, Contains, Option, Some, None, refl}
use Rattle.std.specs.List.{IsDistinct}
use Rattle.std.specs.Str.{bytes_eq}
use Rattle.std.proofs.Common.{arith, ap, ap₂, sym, ◌∙◌, subst}
use Rattle.std.proofs.lemmas.List.Elements.{filter-append}
use Rattle.base_types.specs.declared.ids.DocId.{DocId}
use Rattle.base_types.specs.declared.posting.Posting.{Posting}
use Rattle.lists_postings.specs.Lists.{holds}
use Rattle.lists_postings.specs.Stretches.{AreStretches}
use Rattle.lists_postings.proofs.Elements.{here}
use Rattle.lists_postings.proofs.StretchWindows.{stretches-same}
use Rattle.query_lang.specs.Grammar.{Query}
use Rattle.query_lang.specs.Meaning.{matches, score, words_of}
use Rattle.query_eval.specs.Facts.{word_fact, facts_of, of_doc, hits_now, alive_now, score_if, IsScored}
use Rattle.query_eval.specs.Found.{told, HasHit}
use Rattle.query_eval.specs.Hits.{hits_in, gathered, is_of, hits_of, found}
use Rattle.query_eval.specs.Spans.{row_kind, scored_at, IsSpanAnswer}
use Rattle.query_eval.specs.declared.facts.Fact.{Fact}
use Rattle.query_eval.specs.declared.hit.Hit.{Hit}
use Rattle.query_eval.specs.declared.part.Part.{Part}
use Rattle.query_eval.specs.declared.spans.SpanRow.{SpanRow}
use Rattle.query_eval.proofs.FactLemmas.{hits-parts, alive-append}
use Rattle.query_eval.proofs.FoundLemmas.{hits-tell}
use Rattle.query_eval.proofs.GivenLemmas.{has-word}
use Rattle.query_eval.proofs.HasHitLemmas.{documents-are, document-in, of-from}

-- ---- there is a hit

abbrev pub any_hit : List Hit → Bool
any_hit [] = false
any_hit (h ∷ hits) = true

any-append : (xs ys : List Hit) → any_hit (xs ++ ys) ≡ (any_hit xs || any_hit ys)
any-append [] ys = refl
any-append (x ∷ xs) ys = refl

module _ (t d : ℕ) where
  shown-word : (j : ℕ) (list : List Posting) → alive_now t (filter (of_doc d) (map (word_fact true j) list)) ≡ any_hit (filter (is_of d) (hits_in t j list))
  shown-word j [] = refl
  shown-word j (p ∷ list) = go (of_doc d (word_fact true j p)) (holds t p) refl refl (shown-word j list)
    where
      go : (a b : Bool) → of_doc d (word_fact true j p) ≡ a → holds t p ≡ b → alive_now t (filter (of_doc d) (map (word_fact true j) list)) ≡ any_hit (filter (is_of d) (hits_in t j list))
          → alive_now t (filter (of_doc d) (map (word_fact true j) (p ∷ list))) ≡ any_hit (filter (is_of d) (hits_in t j (p ∷ list)))
      go true true e f h = rw (e, f) (rw e refl)
      go true false e f h = rw (e, f) h
      go false true e f h = rw (e, f) (rw e h)
      go false false e f h = rw (e, f) h

  shown-parts : (j : ℕ) (parts : List Part) → alive_now t (filter (of_doc d) (facts_of true j parts)) ≡ any_hit (filter (is_of d) (gathered t j parts))
  shown-parts j [] = refl
  shown-parts j (p ∷ parts) =
      alive-append t d (map (word_fact true j) p.list.items) (facts_of true (j + 1) parts) ∙ ap₂ (λ x y. x || y) (shown-word j p.list.items) (shown-parts (j + 1) parts)
      ∙ sym (ap any_hit (filter-append (is_of d) (hits_in t j p.list.items) (gathered t (j + 1) parts)) ∙ any-append (filter (is_of d) (hits_in t j p.list.items)) (filter (is_of d) (gathered t (j + 1) parts)))

-- the score of a document that has a hit
abbrev pub scored_by_hits : Query → List Part → ℕ → ℕ → Option ℕ
scored_by_hits query parts d t = score_if (any_hit (filter (is_of d) (gathered t 0 parts))) query (told (words_of query) parts t d)

-- the facts of parts, which show that documents are alive, score them so
pub hits-score : (query : Query) (parts : List Part) (facts : List Fact) → IsDistinct bytes_eq (words_of query) → length parts ≡ length (words_of query)
    → ((d : ℕ) → filter (of_doc d) facts ≡ filter (of_doc d) (facts_of true 0 parts)) → IsScored query facts (scored_by_hits query parts)
hits-score query parts facts a n e = λ d t. (
  told (words_of query) parts t d,
  λ k l. ap (λ g. found (hits_now t g) k) (e d) ∙ ap (λ h. found h k) (hits-parts t d true 0 parts) ∙ hits-tell t (words_of query) parts (gathered t 0 parts) a n (λ x. refl) (record { 0 = d }) k l,
  ap (λ q. score_if q query (told (words_of query) parts t d)) (sym (ap (alive_now t) (e d) ∙ shown-parts t d 0 parts)),
)

-- where whatever has a word is alive, and nothing matches without one, that is the score of those alive
module _ (query : Query) (parts : List Part) (distinct : IsDistinct bytes_eq (words_of query)) (many : length parts ≡ length (words_of query)) (bare : matches query (λ _. 0) ≡ false)
    (alive : DocId → ℕ → Bool) (d t : ℕ) (lives : HasHit (words_of query) parts t (record { 0 = d }) → alive (record { 0 = d }) t ≡ true) where
  abbrev doc : DocId
  doc = record { 0 = d }

  tell : (x : DocId) (k : ℕ) → k < length (words_of query) → found (hits_of x (gathered t 0 parts)) k ≡ told (words_of query) parts t x.0 (get_or (words_of query) k [])
  tell = hits-tell t (words_of query) parts (gathered t 0 parts) distinct many (λ x. refl)

  has : (h : Hit) → Contains (filter (is_of d) (gathered t 0 parts)) h → HasHit (words_of query) parts t doc
  has h c =
      let (m, s) = of-from doc (gathered t 0 parts) h c in
      (documents-are t (words_of query) parts (gathered t 0 parts) many (λ x. refl) tell doc).0 (subst (λ x. Contains (map (λ y. y.doc) (gathered t 0 parts)) x) s (document-in (gathered t 0 parts) h m))

  without : filter (is_of d) (gathered t 0 parts) ≡ [] → matches query (told (words_of query) parts t d) ≡ false
  without e = go (matches query (told (words_of query) parts t d)) refl
    where
      go : (b : Bool) → matches query (told (words_of query) parts t d) ≡ b → b ≡ false
      go false i = refl
      go true i =
          let (k, l, some) = has-word (told (words_of query) parts t d) query bare i in
          absurd (omega (arith, some, tell doc k l, ap (λ hits. found hits k) e))

  pub by-hits : scored_by_hits query parts d t ≡ scored_at alive (λ x s. told (words_of query) parts s x.0) query d t
  by-hits = go (filter (is_of d) (gathered t 0 parts)) refl
    where
      none : (b : Bool) → matches query (told (words_of query) parts t d) ≡ false → score_if false query (told (words_of query) parts t d) ≡ score_if b query (told (words_of query) parts t d)
      none false e = refl
      none true e = sym (ap (λ m. if m then Some (score query (told (words_of query) parts t d)) else None) e)

      go : (hits : List Hit) → filter (is_of d) (gathered t 0 parts) ≡ hits → score_if (any_hit hits) query (told (words_of query) parts t d) ≡ score_if (alive doc t) query (told (words_of query) parts t d)
      go [] e = none (alive doc t) (without e)
      go (h ∷ hits) e = ap (λ b. score_if b query (told (words_of query) parts t d)) (sym (lives (has h (subst (λ l. Contains l h) (sym e) (here h hits)))))

-- the rows by hits are those of the documents alive
pub hits-answer : (query : Query) (parts : List Part) (a b : ℕ) (rows : List SpanRow) → IsDistinct bytes_eq (words_of query) → length parts ≡ length (words_of query) → AreStretches row_kind (scored_by_hits query parts) a b rows
    → (alive : DocId → ℕ → Bool) → matches query (λ _. 0) ≡ false → ((doc : DocId) (t : ℕ) → a ≤ t → t < b → HasHit (words_of query) parts t doc → alive doc t ≡ true)
    → IsSpanAnswer alive (λ doc t. told (words_of query) parts t doc.0) query a b rows
hits-answer query parts a b rows distinct many h alive bare lives =
    stretches-same row_kind (scored_by_hits query parts) (scored_at alive (λ doc t. told (words_of query) parts t doc.0) query) a b
    (λ d t from to. by-hits query parts distinct many bare alive d t (lives (record { 0 = d }) t from to)) rows h
