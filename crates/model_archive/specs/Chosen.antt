-- Which postings are read for a query over a window of time, how many they are, and the answer that is made from them. Of a word without a
-- plan it is its whole list. Of a word with one it is the sublists of the segments that overlap the window, and the word's list from the
-- horizon on where the window reaches past it.
use Rattle.std.specs.Prelude.{◌≡◌, ◌⊎◌, ℕ, ◌+◌, ◌^◌, ◌<◌, ◌≤◌, true, List, [], ◌∷◌, ◌++◌, length, Option, Some, None, Ok, Err, IsSome, is_some}
use Rattle.std.specs.List.{flat_map}
use Rattle.base_types.specs.declared.posting.Posting.{Posting}
use Rattle.pages_area.specs.Caches.{Kept}
use Rattle.lists_postings.specs.Lists.{sublist}
use Rattle.lists_postings.specs.ListsOf.{IsListOf}
use Rattle.journal_entries.specs.declared.plan.PlanEntry.{PlanEntry}
use Rattle.pages_sublists.specs.Segments.{seconds}
use Rattle.pages_sublists.specs.Gathering.{ListOrDamage, Gathers, chosen, stored_size}
use Rattle.pages_sublists.specs.Caching.{pieces_of_all}
use Rattle.pages_sublists.specs.declared.why.Damage.{Damage}
use Rattle.query_lang.specs.Grammar.{Query, IsRead}
use Rattle.query_lang.specs.Meaning.{words_of}
use Rattle.query_lang.specs.Tokens.{term_of}
use Rattle.query_eval.specs.Answers.{IsAnswer}
use Rattle.query_eval.specs.Found.{told, read_of}
use Rattle.query_eval.specs.Spans.{IsSpanAnswer}
use Rattle.query_eval.specs.declared.answer.Row.{Row}
use Rattle.query_eval.specs.declared.part.Part.{Part}
use Rattle.query_eval.specs.declared.spans.SpanRow.{SpanRow}
use Rattle.model_archive.specs.Histories.{History, text_at}
use Rattle.model_archive.specs.Answers.{IsWordList, frequency_at}
use Rattle.model_archive.specs.Planning.{IsListUpTo}
use Rattle.model_archive.specs.Plans.{plan_of}

-- ---- how many postings are read, by the history alone

-- a word's list from the horizon h on, a posting for each of the longest spans of one frequency, where the window that ends at b reaches past it; and
-- nothing elsewhere
abbrev pub IsTailFor : History → List ℕ → ℕ → ℕ → List Posting → Type 0
IsTailFor history word b h tail = ((h < b) × IsListOf (λ doc t. frequency_at history word (record { 0 = doc }) t) h (2 ^ 40) tail)
    ⊎ ((b ≤ h) × (tail ≡ []))

-- how many postings are read of a word for [a, b), by its live plan if it has one
abbrev pub IsReadOf : History → List ℕ → Option PlanEntry → ℕ → ℕ → ℕ → Type 0
IsReadOf history word None a b read = (list : List Posting) × IsWordList history word list × (read ≡ length list)
IsReadOf history word (Some plan) a b read = let h = plan.horizon.seconds in
    (sealed tail : List Posting) × IsListUpTo history word h sealed × IsTailFor history word b h tail
    × (read ≡ stored_size a b h sealed (seconds plan.cuts) + length tail)

-- how many postings are read for some words
abbrev pub IsReadFor : History → ℕ → ℕ → List (List ℕ) → ℕ → Type 0
IsReadFor history a b [] read = read ≡ 0
IsReadFor history a b (word ∷ words) read =
    (one more : ℕ) × IsReadOf history word (plan_of history word) a b one × IsReadFor history a b words more × (read ≡ one + more)

-- ---- the lists that are chosen, by the history and by what reads of Pages give

-- what is gathered from the places of a plan for [a, b)
abbrev pub GathersOf : List ℕ → PlanEntry → ℕ → ℕ → ListOrDamage → Type 0
GathersOf pages plan a b gathered = let h = plan.horizon.seconds in
    Gathers plan.layout h pages (chosen a b h true (seconds plan.cuts) plan.places) [] 0 gathered

-- the list that is chosen of a word for [a, b), and how many postings are read for it
abbrev pub IsChosenOf : History → List ℕ → List ℕ → Option PlanEntry → ℕ → ℕ → List Posting → ℕ → Type 0
IsChosenOf history pages word None a b list read =
    (whole : List Posting) × IsWordList history word whole × (list ≡ sublist a b whole) × (read ≡ length whole)
IsChosenOf history pages word (Some plan) a b list read =
    (stored tail : List Posting) × (n : ℕ) × GathersOf pages plan a b (Ok (stored, n)) × IsTailFor history word b plan.horizon.seconds tail
    × (list ≡ stored ++ tail) × (read ≡ n + length tail)

-- these parts are chosen for these words, one by one
abbrev pub AreChosen : History → List ℕ → ℕ → ℕ → List (List ℕ) → List Part → Type 0
AreChosen history pages a b [] [] = Unit {0}
AreChosen history pages a b (word ∷ words) (part ∷ parts) =
    IsChosenOf history pages word (plan_of history word) a b part.list.items part.read × AreChosen history pages a b words parts
AreChosen history pages a b words parts = ⊥

-- this is damaged of what is read for a word over [a, b): it has a plan, and what is gathered from the plan's places tells it
pub record IsDamagedFor (history : History) (pages : List ℕ) (word : List ℕ) (a b : ℕ) (damage : Damage) : Type 0 where
  pub plan : PlanEntry
  pub live : plan_of history word ≡ Some plan
  pub told : GathersOf pages plan a b (Err damage)

-- this is the first that is damaged of what is read for some words over [a, b), in their order: of those in front all is chosen
pub record IsFirstDamage (history : History) (pages : List ℕ) (a b : ℕ) (words : List (List ℕ)) (damage : Damage) : Type 0 where
  pub front : List (List ℕ)
  pub word : List ℕ
  pub back : List (List ℕ)
  pub words_are : words ≡ front ++ word ∷ back
  pub parts : List Part
  pub are_chosen : AreChosen history pages a b front parts
  pub damaged : IsDamagedFor history pages word a b damage

-- the phrase is a query, and this is the first that is damaged of what is read for its words over [a, b)
pub record SpoilsAnswer (history : History) (pages : List ℕ) (a b : ℕ) (phrase : List ℕ) (damage : Damage) : Type 0 where
  pub query : Query
  pub is_read : IsRead term_of phrase (Ok query)
  pub first : IsFirstDamage history pages a b (words_of query) damage

-- the pieces of the pages that are asked for, for a word over [a, b), by its live plan if it has one: those of the places that are chosen, in order
abbrev pub pieces_chosen : List ℕ → Option PlanEntry → ℕ → ℕ → List Kept
pieces_chosen pages None a b = []
pieces_chosen pages (Some plan) a b = let h = plan.horizon.seconds in pieces_of_all pages
    (chosen a b h true (seconds plan.cuts) plan.places)

-- and for some words, in their order
abbrev pub pieces_for : History → List ℕ → ℕ → ℕ → List (List ℕ) → List Kept
pieces_for history pages a b words = flat_map (λ word. pieces_chosen pages (plan_of history word) a b) words

-- ---- the answers that are made from the lists chosen

-- The answer to a query at a time: the documents alive are the history's, and how often they have a word is told by the lists that are chosen.
pub record IsMadeAt (history : History) (pages : List ℕ) (t : ℕ) (query : Query) (rows : List Row) (read : ℕ) : Type 0 where
  pub parts : List Part
  pub are_chosen : AreChosen history pages t (t + 1) (words_of query) parts
  pub rows_are : IsAnswer (λ doc. IsSome (text_at history doc t)) (λ doc. told (words_of query) parts t doc.0) query rows
  pub read_is : read ≡ read_of parts

-- the same over [a, b)
pub record IsMadeOver (history : History) (pages : List ℕ) (a b : ℕ) (query : Query) (rows : List SpanRow) (read : ℕ) : Type 0 where
  pub parts : List Part
  pub are_chosen : AreChosen history pages a b (words_of query) parts
  pub rows_are : IsSpanAnswer (λ doc t. is_some (text_at history doc t)) (λ doc t. told (words_of query) parts t doc.0) query a b rows
  pub read_is : read ≡ read_of parts
