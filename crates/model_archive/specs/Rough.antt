-- What is told of a word's list approximately, and what is found at a time by such lists.
use Rattle.std.specs.Prelude.{◌≡◌, ℕ, ◌^◌, List, All, IsSome}
use Rattle.std.specs.List.{AllZip}
use Rattle.base_types.specs.declared.posting.Posting.{Posting}
use Rattle.base_types.specs.declared.tolerance.Tolerance.{Tolerance}
use Rattle.lists_postings.specs.Lists.{frequency}
use Rattle.lists_approx.specs.Approximations.{IsLongestFirst}
use Rattle.query_lang.specs.Grammar.{Query}
use Rattle.query_lang.specs.Meaning.{words_of}
use Rattle.query_eval.specs.Answers.{IsAnswer}
use Rattle.query_eval.specs.Found.{told, read_of}
use Rattle.query_eval.specs.declared.answer.Row.{Row}
use Rattle.query_eval.specs.declared.part.Part.{Part}
use Rattle.model_archive.specs.Histories.{History, text_at}
use Rattle.model_archive.specs.Answers.{IsWordList}
use Rattle.model_archive.specs.Chosen.{AreChosen}

-- the longest-first approximation of a word's whole list
abbrev pub IsShortOf : History → Tolerance → List ℕ → List Posting → Type 0
IsShortOf history tolerance word short = (whole : List Posting) × IsWordList history word whole × IsLongestFirst tolerance whole short

-- The answer to a query at a time, approximately: the documents alive are the history's, and how often they have a word is told by the
-- longest-first approximation of the word's whole list.
pub record IsRoughAnswer (history : History) (tolerance : Tolerance) (t : ℕ) (query : Query) (rows : List Row) : Type 0 where
  pub lists : List ℕ → List Posting
  pub each : All (λ word. IsShortOf history tolerance word (lists word)) (words_of query)
  pub rows_are : IsAnswer (λ doc. IsSome (text_at history doc t)) (λ doc word. frequency doc.0 t (lists word)) query rows

-- ---- by what reads of Pages give

-- this part is the longest-first approximation of what was chosen for a word
abbrev pub IsShortPart : Tolerance → Part → Part → Type 0
IsShortPart tolerance part short = IsLongestFirst tolerance part.list.items short.list.items

-- The answer to a query at a time, approximately: the documents alive are the history's, and how often they have a word is told by the
-- longest-first approximation of what is chosen of its list over all times.
pub record IsMadeRough (history : History) (pages : List ℕ) (tolerance : Tolerance) (t : ℕ) (query : Query) (rows : List Row)
    (read : ℕ) : Type 0 where
  pub parts : List Part
  pub are_chosen : AreChosen history pages 0 (2 ^ 40) (words_of query) parts
  pub shorts : List Part
  pub are_short : AllZip (IsShortPart tolerance) parts shorts
  pub rows_are : IsAnswer (λ doc. IsSome (text_at history doc t)) (λ doc. told (words_of query) shorts t doc.0) query rows
  pub read_is : read ≡ read_of parts
