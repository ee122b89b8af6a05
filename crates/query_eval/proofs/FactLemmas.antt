-- What facts say of documents.
use Rattle.std.specs.Prelude.{◌≡◌, ℕ, ◌+◌, ◌||◌, Bool, true, false, List, [], ◌∷◌, ◌++◌, length, filter, map, Option, Some, None, MatchOption, refl}
use Rattle.std.specs.List.{filter_map, list_any, IsDistinct}
use Rattle.std.specs.Str.{bytes_eq}
use Rattle.std.proofs.Common.{ap, ap₂, sym, ◌∙◌, subst}
use Rattle.std.proofs.lemmas.List.Elements.{filter-append, filter_map-append}
use Rattle.std.proofs.lemmas.List.Folds.{list_any-append}
use Rattle.base_types.specs.declared.posting.Posting.{Posting}
use Rattle.lists_postings.specs.Lists.{holds}
use Rattle.lists_postings.specs.Kinds.{is_alive}
use Rattle.lists_postings.specs.declared.life.Life.{Life}
use Rattle.query_lang.specs.Grammar.{Query}
use Rattle.query_lang.specs.Meaning.{words_of}
use Rattle.query_eval.specs.Facts.{life_fact, word_fact, facts_of, of_doc, covers, hits_now, alive_now, score_if, TellWords, IsScored}
use Rattle.query_eval.specs.Found.{told}
use Rattle.query_eval.specs.Hits.{hit_of, hits_in, gathered, is_of, found}
use Rattle.query_eval.specs.Spans.{scored_at}
use Rattle.query_eval.specs.declared.facts.Fact.{Fact}
use Rattle.query_eval.specs.declared.part.Part.{Part}
use Rattle.query_eval.proofs.FoundLemmas.{hits-tell}

-- the parts of a choice that came out
pub if-some : {A : Type 0} (P : Type 0) (Q : A → Type 0) (o : Option A) (x : A) → o ≡ Some x → MatchOption o P Q → Q x
if-some P Q o x e h = let m : MatchOption (Some x) P Q = subst (λ y. MatchOption y P Q) e h in m

pub if-none : {A : Type 0} (P : Type 0) (Q : A → Type 0) (o : Option A) → o ≡ None → MatchOption o P Q → P
if-none P Q o e h = let m : MatchOption None P Q = subst (λ y. MatchOption y P Q) e h in m

module _ (t d : ℕ) where
  hits-append : (xs ys : List Fact) → hits_now t (filter (of_doc d) (xs ++ ys)) ≡ hits_now t (filter (of_doc d) xs) ++ hits_now t (filter (of_doc d) ys)
  hits-append xs ys =
      ap (hits_now t) (filter-append (of_doc d) xs ys)
      ∙ ap (filter_map (λ f. f.hit)) (filter-append (covers t) (filter (of_doc d) xs) (filter (of_doc d) ys))
      ∙ filter_map-append (λ f. f.hit) (filter (covers t) (filter (of_doc d) xs)) (filter (covers t) (filter (of_doc d) ys))

  pub alive-append : (xs ys : List Fact) → alive_now t (filter (of_doc d) (xs ++ ys)) ≡ (alive_now t (filter (of_doc d) xs) || alive_now t (filter (of_doc d) ys))
  alive-append xs ys =
      ap (alive_now t) (filter-append (of_doc d) xs ys)
      ∙ ap (list_any (λ f. f.alive)) (filter-append (covers t) (filter (of_doc d) xs) (filter (of_doc d) ys))
      ∙ list_any-append (λ f. f.alive) (filter (covers t) (filter (of_doc d) xs)) (filter (covers t) (filter (of_doc d) ys))

  hits-lives : (lives : List Life) → hits_now t (filter (of_doc d) (map life_fact lives)) ≡ []
  hits-lives [] = refl
  hits-lives (l ∷ lives) = go (of_doc d (life_fact l)) (covers t (life_fact l)) refl refl (hits-lives lives)
    where
      go : (a b : Bool) → of_doc d (life_fact l) ≡ a → covers t (life_fact l) ≡ b → hits_now t (filter (of_doc d) (map life_fact lives)) ≡ [] → hits_now t (filter (of_doc d) (map life_fact (l ∷ lives))) ≡ []
      go true true e f h = rw (e, f) h
      go true false e f h = rw (e, f) h
      go false b e f h = rw e h

  alive-lives : (lives : List Life) → alive_now t (filter (of_doc d) (map life_fact lives)) ≡ is_alive lives d t
  alive-lives [] = refl
  alive-lives (l ∷ lives) = go (of_doc d (life_fact l)) (covers t (life_fact l)) refl refl (alive-lives lives)
    where
      go : (a b : Bool) → of_doc d (life_fact l) ≡ a → covers t (life_fact l) ≡ b → alive_now t (filter (of_doc d) (map life_fact lives)) ≡ is_alive lives d t → alive_now t (filter (of_doc d) (map life_fact (l ∷ lives))) ≡ is_alive (l ∷ lives) d t
      go true true e f h = rw (e, f) refl
      go true false e f h = rw (e, f) h
      go false b e f h = rw e h

  hits-word : (s : Bool) (j : ℕ) (list : List Posting) → hits_now t (filter (of_doc d) (map (word_fact s j) list)) ≡ filter (is_of d) (hits_in t j list)
  hits-word s j [] = refl
  hits-word s j (p ∷ list) = go (of_doc d (word_fact s j p)) (holds t p) refl refl (hits-word s j list)
    where
      go : (a b : Bool) → of_doc d (word_fact s j p) ≡ a → holds t p ≡ b → hits_now t (filter (of_doc d) (map (word_fact s j) list)) ≡ filter (is_of d) (hits_in t j list)
          → hits_now t (filter (of_doc d) (map (word_fact s j) (p ∷ list))) ≡ filter (is_of d) (hits_in t j (p ∷ list))
      go true true e f h = rw (e, f) (rw e (ap (λ l. hit_of j p ∷ l) h))
      go true false e f h = rw (e, f) h
      go false true e f h = rw (e, f) (rw e h)
      go false false e f h = rw (e, f) h

  alive-word : (j : ℕ) (list : List Posting) → alive_now t (filter (of_doc d) (map (word_fact false j) list)) ≡ false
  alive-word j [] = refl
  alive-word j (p ∷ list) = go (of_doc d (word_fact false j p)) (covers t (word_fact false j p)) refl refl (alive-word j list)
    where
      go : (a b : Bool) → of_doc d (word_fact false j p) ≡ a → covers t (word_fact false j p) ≡ b → alive_now t (filter (of_doc d) (map (word_fact false j) list)) ≡ false → alive_now t (filter (of_doc d) (map (word_fact false j) (p ∷ list))) ≡ false
      go true true e f h = rw (e, f) h
      go true false e f h = rw (e, f) h
      go false b e f h = rw e h

  pub hits-parts : (s : Bool) (j : ℕ) (parts : List Part) → hits_now t (filter (of_doc d) (facts_of s j parts)) ≡ filter (is_of d) (gathered t j parts)
  hits-parts s j [] = refl
  hits-parts s j (p ∷ parts) =
      hits-append (map (word_fact s j) p.list.items) (facts_of s (j + 1) parts) ∙ ap₂ (λ x y. x ++ y) (hits-word s j p.list.items) (hits-parts s (j + 1) parts) ∙ sym (filter-append (is_of d) (hits_in t j p.list.items) (gathered t (j + 1) parts))

  alive-parts : (j : ℕ) (parts : List Part) → alive_now t (filter (of_doc d) (facts_of false j parts)) ≡ false
  alive-parts j [] = refl
  alive-parts j (p ∷ parts) = alive-append (map (word_fact false j) p.list.items) (facts_of false (j + 1) parts) ∙ ap₂ (λ x y. x || y) (alive-word j p.list.items) (alive-parts (j + 1) parts)

  hits-all : (lives : List Life) (parts : List Part) → hits_now t (filter (of_doc d) (map life_fact lives ++ facts_of false 0 parts)) ≡ filter (is_of d) (gathered t 0 parts)
  hits-all lives parts = hits-append (map life_fact lives) (facts_of false 0 parts) ∙ ap₂ (λ x y. x ++ y) (hits-lives lives) (hits-parts false 0 parts)

  alive-all : (lives : List Life) (parts : List Part) → alive_now t (filter (of_doc d) (map life_fact lives ++ facts_of false 0 parts)) ≡ is_alive lives d t
  alive-all lives parts = alive-append (map life_fact lives) (facts_of false 0 parts) ∙ ap₂ (λ x y. x || y) (alive-lives lives) (alive-parts 0 parts) ∙ or-false (is_alive lives d t)
    where
      or-false : (b : Bool) → b || false ≡ b
      or-false true = refl
      or-false false = refl

-- the facts of lives and parts score documents by these
pub facts-score : (query : Query) (lives : List Life) (parts : List Part) (facts : List Fact) → IsDistinct bytes_eq (words_of query) → length parts ≡ length (words_of query)
    → ((d : ℕ) → filter (of_doc d) facts ≡ filter (of_doc d) (map life_fact lives ++ facts_of false 0 parts)) → IsScored query facts (scored_at (λ doc t. is_alive lives doc.0 t) (λ doc t. told (words_of query) parts t doc.0) query)
facts-score query lives parts facts a n e = λ d t. (
  told (words_of query) parts t d,
  λ k l. ap (λ g. found (hits_now t g) k) (e d) ∙ ap (λ h. found h k) (hits-all t d lives parts) ∙ hits-tell t (words_of query) parts (gathered t 0 parts) a n (λ x. refl) (record { 0 = d }) k l,
  ap (λ q. score_if q query (told (words_of query) parts t d)) (sym (ap (alive_now t) (e d) ∙ alive-all t d lives parts)),
)

-- a score by a group of facts is the score
pub scored-by : (query : Query) (facts group : List Fact) (d t : ℕ) (f : ℕ → ℕ → Option ℕ) (v : Option ℕ) → IsScored query facts f → group ≡ filter (of_doc d) facts
    → ((often : List ℕ → ℕ) → TellWords query (hits_now t group) often → v ≡ score_if (alive_now t group) query often) → f d t ≡ v
scored-by query facts group d t f v s g h =
    let (often, tell, e) = s d t in
    e ∙ ap (λ x. score_if (alive_now t x) query often) (sym g) ∙ sym (h often (subst (λ x. TellWords query (hits_now t x) often) (sym g) tell))
