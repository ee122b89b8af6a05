-- What the answer to a query over a window of time is.
use Rattle.std.specs.Prelude.{ℕ, ◌&&◌, Bool, if◌then◌else◌, List, Option, Some, None}
use Rattle.base_types.specs.declared.ids.DocId.{DocId}
use Rattle.lists_postings.specs.Stretches.{Kind, AreStretches}
use Rattle.query_lang.specs.Grammar.{Query}
use Rattle.query_lang.specs.Meaning.{matches, score}
use Rattle.query_eval.specs.declared.spans.SpanRow.{SpanRow}

-- The score of a document (by number) at a time, where it is alive then and matches. Which documents are alive at a time, and how
-- often each has each word then, is given.
abbrev pub scored_at : (DocId → ℕ → Bool) → (DocId → ℕ → List ℕ → ℕ) → Query → ℕ → ℕ → Option ℕ
scored_at alive often query d t =
    if (alive (record { 0 = d }) t && matches query (often (record { 0 = d }) t)) then Some (score query (often (record { 0 = d }) t)) else
    None

-- a row as a stretch: the document has the score
abbrev pub row_kind : Kind SpanRow ℕ
row_kind = record { doc = λ r. r.doc.0; from = λ r. r.span.from; to = λ r. r.span.to; value = λ r. r.score; some = λ r. r.span.ordered }

-- The answer to a query over [a, b): for each document the longest stretches inside [a, b) at whose every time it is alive, matches
-- and has one score, in the order of document and start.
abbrev pub IsSpanAnswer : (DocId → ℕ → Bool) → (DocId → ℕ → List ℕ → ℕ) → Query → ℕ → ℕ → List SpanRow → Type 0
IsSpanAnswer alive often query a b rows = AreStretches row_kind (scored_at alive often query) a b rows
