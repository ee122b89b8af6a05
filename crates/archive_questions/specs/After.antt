-- What holds after each query, and after sublists were fetched for one, whatever it is for.
use Rattle.std.specs.Prelude.{◌≡◌, ◌+◌, List, ℕ, Result, Ok, Err, IfOk, OnOk, IsOk}
use Rattle.machine_model.specs.Calls.{OnlyReads}
use Rattle.machine_model.specs.Causes.{Rose}
use Rattle.machine_model.specs.States.{DiskState}
use Rattle.base_types.specs.declared.time.Time.{Time}
use Rattle.plans_share.specs.Asked.{noted_all}
use Rattle.query_lang.specs.Grammar.{Query, IsRead}
use Rattle.query_lang.specs.Meaning.{words_of}
use Rattle.query_lang.specs.Tokens.{term_of}
use Rattle.pages_sublists.specs.declared.why.Damage.{Damage}
use Rattle.pages_sublists.specs.declared.why.FetchError.{FetchError}
use Rattle.pages_sublists.specs.declared.why.FetchError.TheVariants as fetches
use Rattle.model_archive.specs.declared.refusal.Refusal.{Refusal}
use Rattle.model_archive.specs.Chosen.{IsFirstDamage, SpoilsAnswer, pieces_for}
use Rattle.model_archive.specs.Histories.{History}
use Rattle.archive_hand.specs.Asking.{HasAsked}
use Rattle.archive_questions.specs.Answering.{IsAnswerTo, IsNoQuery, IsQuery}
use Rattle.archive_hand.specs.States.{ArchiveState, CacheStands, IsSameButCache, StandsFor}
use Rattle.archive_questions.specs.declared.error.AskError.{AskError}
use Rattle.archive_questions.specs.declared.error.AskError.TheVariants as asks

-- After sublists were fetched, on any disk: `tells` says that the disk tells.
pub record AfterFetching {T : Type 0} (tells : Type 0) (result : Result T FetchError) (d e : DiskState)
    (old new : ArchiveState) : Type 0 where
  -- no image changes, no byte and no length
  pub same : OnlyReads d e
  -- nor does the archive, but for which pages it keeps
  pub but_cache : IsSameButCache old new
  -- and these go on being what reads give, whatever comes of it
  pub cached : tells → CacheStands d old → CacheStands e new
  -- it failed only where a call of the disk failed
  pub failed : result ≡ Err fetches.Failed → Rose d.faults e.faults

-- What sublists were fetched for over [a, b), for some words: `tells` says that the disk tells, and `IsMade` what is made of them. It is so of each
-- history that the archive stands for, whatever the disk holds, where the pages kept are what reads give.
pub record Fetches {T : Type 0} (tells : Type 0) (a b : ℕ) (words : List (List ℕ)) (IsMade : History → T → Type 0)
    (result : Result T FetchError) (d e : DiskState) (old new : ArchiveState) : Type 0 where
  pub made : tells → (h : History) → StandsFor old h → CacheStands d old → IfOk result (IsMade h)
  -- exactly the pages were asked for of the places that are chosen
  pub asked : tells → (h : History) → StandsFor old h → CacheStands d old
      → OnOk result (HasAsked (pieces_for h d.holds.pages a b words) old.shelf.cache new.shelf.cache d e)
  -- and what is damaged is the first of what is read for the words, as what reads give shows
  pub damaged : tells → (h : History) → StandsFor old h → CacheStands d old → (damage : Damage) → result ≡ Err (fetches.Damaged damage)
      → IsFirstDamage h d.holds.pages a b words damage

-- After a query by this phrase over [a, b), on any disk: `tells` says that the disk tells, and `IsMade` what an answer to a query is made from.
pub record AfterQuestion {T : Type 0} (tells : Type 0) (phrase : List ℕ) (a b : ℕ) (IsMade : History → Query → T → Type 0)
    (result : Result T AskError) (d e : DiskState) (old new : ArchiveState) : Type 0 where
  -- no image changes, no byte and no length
  pub same : OnlyReads d e
  -- nor does the archive, but for which pages it keeps
  pub but_cache : IsSameButCache old new
  -- and these go on being what reads give, whatever is answered
  pub cached : tells → CacheStands d old → CacheStands e new
  -- it failed only where a call of the disk failed
  pub failed : result ≡ Err asks.Failed → Rose d.faults e.faults
  -- a refusal comes of a text that is no query, at the place where that shows
  pub refused : (why : Refusal) → result ≡ Err (asks.Refused why) → IsNoQuery phrase why
  -- and then nothing was read, and no page asked for
  pub unasked : (why : Refusal) → result ≡ Err (asks.Refused why) → (e ≡ d) × (new ≡ old)
  -- and an answer comes of a query
  pub asked : IsOk result → IsQuery phrase
  -- whatever the disk holds, if it tells, and the pages kept are what reads give: an answer is made so, and exactly the pages were asked for of the
  -- places that are chosen
  pub made : tells → (h : History) → StandsFor old h → CacheStands d old
      → IfOk result (λ answer. IsAnswerTo h a b phrase (λ query. IsMade h query answer) old.shelf.cache new.shelf.cache d e)
  -- and what is damaged is the first of what is read for the query's words, as what reads give shows
  pub damaged : tells → (h : History) → StandsFor old h → CacheStands d old → (damage : Damage) → result ≡ Err (asks.Damaged damage)
      → SpoilsAnswer h d.holds.pages a b phrase damage

-- where a question is answered, its time is noted with each of the query's words, and else nothing is
abbrev pub IsNoted : {T : Type 0} → List ℕ → Time → Result T AskError → ArchiveState → ArchiveState → Type 0
IsNoted phrase at (Ok answer) old new = (query : Query) × IsRead term_of phrase (Ok query)
    × (new ≡ record old { asked = noted_all old.asked (words_of query) at })
IsNoted phrase at (Err error) old new = new ≡ old

-- After a query for a time that is noted: all that is so after a query, and then it is noted.
pub record AfterNoted {T : Type 0} (tells : Type 0) (phrase : List ℕ) (at : Time) (IsMade : History → Query → T → Type 0)
    (result : Result T AskError) (d e : DiskState) (old new : ArchiveState) : Type 0 where
  pub answered : ArchiveState
  pub after : AfterQuestion tells phrase at.seconds (at.seconds + 1) IsMade result d e old answered
  pub noted : IsNoted phrase at result answered new
