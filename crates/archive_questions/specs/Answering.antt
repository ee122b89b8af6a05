-- What is said of a question, whatever the disk holds: that its phrase is a query or none, and what its answer is made from.
use Rattle.std.specs.Prelude.{◌≡◌, ℕ, List, Ok, Err, IsSome}
use Rattle.machine_model.specs.States.{DiskState}
use Rattle.base_types.specs.declared.ids.DocId.{DocId}
use Rattle.pages_area.specs.Caches.{Kept}
use Rattle.query_lang.specs.Grammar.{Query, IsRead}
use Rattle.query_lang.specs.Meaning.{words_of}
use Rattle.query_lang.specs.Tokens.{term_of}
use Rattle.query_eval.specs.Firsts.{AreWantedOf}
use Rattle.query_eval.specs.Found.{HasHit}
use Rattle.query_eval.specs.declared.answer.Row.{Row}
use Rattle.query_eval.specs.declared.answer.Wanted.{Wanted}
use Rattle.query_eval.specs.declared.part.Part.{Part}
use Rattle.model_archive.specs.declared.refusal.Refusal.{Refusal}
use Rattle.model_archive.specs.declared.refusal.Refusal.TheVariants as refusals
use Rattle.model_archive.specs.Histories.{History, text_at}
use Rattle.model_archive.specs.Chosen.{IsMadeAt, pieces_for}
use Rattle.archive_hand.specs.Asking.{HasAsked}

-- the phrase is a query
abbrev pub IsQuery : List ℕ → Type 0
IsQuery phrase = (query : Query) × IsRead term_of phrase (Ok query)

-- the phrase is none, which shows at the place that is told
abbrev pub IsNoQuery : List ℕ → Refusal → Type 0
IsNoQuery phrase why = (place : ℕ) × IsRead term_of phrase (Err place) × (why ≡ refusals.BadQuery place)

-- exactly the pages of the places were asked for that are chosen of a query's words over [a, b)
abbrev pub HasReadFor : History → ℕ → ℕ → Query → List Kept → List Kept → DiskState → DiskState → Type 0
HasReadFor history a b query was now old new = HasAsked (pieces_for history old.holds.pages a b (words_of query)) was now old new

-- The answer to a phrase over [a, b) is made from its query, and the pages were asked for of the places that are chosen, with the caches before
-- and after.
abbrev pub IsAnswerTo : History → ℕ → ℕ → List ℕ → (Query → Type 0) → List Kept → List Kept → DiskState → DiskState → Type 0
IsAnswerTo history a b phrase IsMade was now old new =
    (query : Query) × IsRead term_of phrase (Ok query) × IsMade query × HasReadFor history a b query was now old new

-- those rows that are asked for of an answer that is made from the lists chosen
abbrev pub IsWantedAt : Wanted → History → List ℕ → ℕ → Query → List Row → ℕ → Type 0
IsWantedAt wanted history pages t query rows read = AreWantedOf wanted (λ all. IsMadeAt history pages t query all read) rows

-- each document that has one of the words at a time, by these parts, is alive then
abbrev pub HitsAreAlive : History → List (List ℕ) → List Part → ℕ → Type 0
HitsAreAlive history words parts t = (doc : DocId) → HasHit words parts t doc → IsSome (text_at history doc t)
