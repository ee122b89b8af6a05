-- What the parts of lists that were had say of documents, and the rows that come of it.
use Rattle.std.specs.Prelude.{◌≡◌, ℕ, ◌<◌, ◌&&◌, ◌==◌, Bool, if◌then◌else◌, List, [], ◌∷◌, length, get_or, Option, Some, None, sum_by}
use Rattle.std.specs.List.Sorted.{IsSortedBy}
use Rattle.std.specs.Ordering.{is_lt, nat_cmp, ordering_then}
use Rattle.std.specs.Str.{bytes_eq}
use Rattle.base_types.specs.declared.ids.DocId.{DocId}
use Rattle.lists_postings.specs.Lists.{frequency}
use Rattle.query_lang.specs.Grammar.{Query}
use Rattle.query_lang.specs.Meaning.{matches, score}
use Rattle.query_eval.specs.declared.answer.Row.{Row}
use Rattle.query_eval.specs.declared.part.Part.{Part}

-- how often a document has a word at a time, by the parts that were answered for these words
abbrev pub told : List (List ℕ) → List Part → ℕ → ℕ → List ℕ → ℕ
told [] parts t d word = 0
told (w ∷ words) [] t d word = 0
told (w ∷ words) (part ∷ parts) t d word = if bytes_eq w word then frequency d t part.list.items else told words parts t d word

-- a document has one of the words at a time, by the parts that were answered for them
pub record HasHit (words : List (List ℕ)) (parts : List Part) (t : ℕ) (doc : DocId) : Type 0 where
  pub place : ℕ
  pub within : place < length words
  pub some : 0 < told words parts t doc.0 (get_or words place [])

-- how many postings were read for some parts
abbrev pub read_of : List Part → ℕ
read_of parts = sum_by (λ p. p.read) parts

-- what is answered of a document is what this test says
abbrev pub AnswersAs : (DocId → Bool → Type 0) → (DocId → Bool) → Type 0
AnswersAs answers test = (doc : DocId) (b : Bool) → answers doc b → b ≡ test doc

-- the row of a document, where it matches
abbrev pub row_of : Query → (List ℕ → ℕ) → DocId → Option Row
row_of query often doc = if matches query often then Some (record { doc = doc; score = score query often }) else None

-- one row, by its parts
abbrev pub same_row : Row → Row → Bool
same_row a b = (a.doc.0 == b.doc.0) && (a.score == b.score)

-- rows without those that the next one repeats
abbrev pub once : List Row → List Row
once [] = []
once (x ∷ []) = x ∷ []
once (x ∷ y ∷ rows) = if same_row x y then once (y ∷ rows) else x ∷ once (y ∷ rows)

-- rows by score, downwards, and then by document
abbrev pub AreSorted : List Row → Type 0
AreSorted rows = IsSortedBy (λ x y. is_lt (ordering_then (nat_cmp y.score x.score) (nat_cmp x.doc.0 y.doc.0))) rows
