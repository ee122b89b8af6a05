-- What follows of answers that are made approximately.
use Rattle.std.specs.Prelude.{◌≡◌, ℕ, ◌^◌, ◌<◌, List, All, Contains}
use Rattle.base_types.specs.declared.tolerance.Tolerance.{Tolerance}
use Rattle.lists_approx.specs.Approximations.{IsNear}
use Rattle.query_lang.specs.Grammar.{Query}
use Rattle.query_lang.specs.Meaning.{matches, score, words_of}
use Rattle.query_eval.specs.declared.answer.Row.{Row}
use Rattle.model_archive.specs.Histories.{History}
use Rattle.model_archive.specs.Answers.{IsAnswerAt}
use Rattle.model_archive.specs.Chosen.{IsReadFor}
use Rattle.model_archive.specs.Holding.{HoldsPlans}
use Rattle.model_archive.specs.Legal.{IsLoadable}
use Rattle.model_archive.specs.Rough.{IsRoughAnswer, IsMadeRough}

-- Each row is of a document of the answer, and each document of the answer has a row; its score is near the answer's.
pub record AreNearRows (tolerance : Tolerance) (rows exact : List Row) : Type 0 where
  pub to : (row : Row) → Contains rows row → (other : Row) × Contains exact other × (other.doc ≡ row.doc)
      × IsNear tolerance row.score other.score
  pub from : (row : Row) → Contains exact row → (other : Row) × Contains rows other × (other.doc ≡ row.doc)
      × IsNear tolerance other.score row.score

-- A rough answer has exactly the documents of the exact one, and each score is near the true one.
abbrev pub RoughIsNear : Type 0
RoughIsNear =
    (h : History) (tolerance : Tolerance) (t : ℕ) (query : Query) (rows exact : List Row) → t < 2 ^ 40
    → IsRoughAnswer h tolerance t query rows → IsAnswerAt h t query exact → AreNearRows tolerance rows exact

-- The same over any frequencies: where those of a query's words are near, the same texts match, and scores are near.
abbrev pub NearByFrequencies : Type 0
NearByFrequencies =
    (tolerance : Tolerance) (query : Query) (often exact : List ℕ → ℕ)
    → All (λ word. IsNear tolerance (often word) (exact word)) (words_of query)
    → (matches query often ≡ matches query exact) × IsNear tolerance (score query often) (score query exact)

-- What is made approximately from pages that hold the live plans is the rough answer, and costs what it should.
abbrev pub MadeRoughStands : Type 0
MadeRoughStands =
    (h : History) (pages : List ℕ) (tolerance : Tolerance) (t : ℕ) (query : Query) (rows : List Row) (read : ℕ) → IsLoadable h
    → HoldsPlans h pages → IsMadeRough h pages tolerance t query rows read
    → IsRoughAnswer h tolerance t query rows × IsReadFor h 0 (2 ^ 40) (words_of query) read
