-- What a search would have found at a time, or over a window of time: by the texts that were alive then.
use Rattle.std.specs.Prelude.{ℕ, ◌^◌, List, IsSome, is_some, option_map, unwrap_or}
use Rattle.base_types.specs.declared.ids.DocId.{DocId}
use Rattle.base_types.specs.declared.posting.Posting.{Posting}
use Rattle.lists_postings.specs.ListsOf.{IsListOf}
use Rattle.text_words.specs.Terms.{occurrences}
use Rattle.query_lang.specs.Grammar.{Query}
use Rattle.query_eval.specs.Answers.{IsAnswer}
use Rattle.query_eval.specs.Spans.{IsSpanAnswer}
use Rattle.query_eval.specs.declared.answer.Row.{Row}
use Rattle.query_eval.specs.declared.spans.SpanRow.{SpanRow}
use Rattle.model_archive.specs.Histories.{History, text_at}

-- how often a word occurs in the text of a document that is alive at a time; 0 where the document isn't alive then
abbrev pub frequency_at : History → List ℕ → DocId → ℕ → ℕ
frequency_at history word doc t = unwrap_or (option_map (occurrences word) (text_at history doc t)) 0

-- the answer to a query at a time, as scanning the versions that are alive then gives it
abbrev pub IsAnswerAt : History → ℕ → Query → List Row → Type 0
IsAnswerAt history t query rows = IsAnswer (λ doc. IsSome (text_at history doc t)) (λ doc word. frequency_at history word doc t) query rows

-- the answer to a query over [a, b): for each document the longest stretches of one score in which a text of it is alive that matches
abbrev pub IsSpanAnswerAt : History → ℕ → ℕ → Query → List SpanRow → Type 0
IsSpanAnswerAt history a b query rows = IsSpanAnswer (λ doc t. is_some (text_at history doc t))
    (λ doc t word. frequency_at history word doc t) query a b rows

-- a word's whole list: a posting for each of the longest spans of one frequency
abbrev pub IsWordList : History → List ℕ → List Posting → Type 0
IsWordList history word list = IsListOf (λ doc t. frequency_at history word (record { 0 = doc }) t) 0 (2 ^ 40) list
