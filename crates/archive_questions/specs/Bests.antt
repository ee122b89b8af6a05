-- What holds after the first rows by blocks were asked for, and of what is held of words for them.
use Rattle.std.specs.Prelude.{◌≡◌, ℕ, ◌+◌, ◌<◌, nat_lt, List, length, take, Contains, Option, Some, None, Result, Err, IfOk, OnOk}
use Rattle.std.specs.List.{AllZip}
use Rattle.machine_model.specs.Calls.{OnlyReads}
use Rattle.machine_model.specs.Causes.{Rose}
use Rattle.machine_model.specs.States.{DiskState}
use Rattle.journal_entries.specs.declared.plan.PlanEntry.{PlanEntry}
use Rattle.pages_sublists.specs.declared.why.Damage.{Damage}
use Rattle.pages_sublists.specs.declared.why.FetchError.{FetchError}
use Rattle.pages_sublists.specs.declared.why.FetchError.TheVariants as fetches
use Rattle.query_lang.specs.Grammar.{Query}
use Rattle.query_lang.specs.Meaning.{matches, score, words_of}
use Rattle.query_eval.specs.declared.answer.Row.{Row}
use Rattle.query_top.specs.Sheets.{Sheet}
use Rattle.query_top.specs.declared.ranking.Row.{Row as TopRow}
use Rattle.query_best.specs.Held.{IsBadBlock, IsBadOf, IsHeldAs, heads_in}
use Rattle.query_best.specs.declared.held.HeldBlocks.{HeldBlocks}
use Rattle.query_best.specs.declared.held.HeldWord.{HeldWord}
use Rattle.model_archive.specs.Answers.{IsAnswerAt}
use Rattle.model_archive.specs.Bests.{AreFoundByBlocks, AreSheets, IsDamagedAt, IsSheetOf}
use Rattle.model_archive.specs.Chosen.{IsReadFor, IsReadOf, pieces_chosen, pieces_for}
use Rattle.model_archive.specs.Histories.{History}
use Rattle.model_archive.specs.Holding.{HoldsPlans}
use Rattle.model_archive.specs.Plans.{plan_of}
use Rattle.archive_plans.specs.declared.framing.SegmentFrames.{SegmentFrames}
use Rattle.archive_hand.specs.Asking.{HasAsked}
use Rattle.archive_hand.specs.States.{ArchiveState, CacheStands, IsSameButCache, StandsFor}
use Rattle.archive_questions.specs.declared.besting.BestAnswer.{BestAnswer}
use Rattle.archive_questions.specs.declared.error.AskError.{AskError}
use Rattle.archive_questions.specs.declared.error.AskError.TheVariants as asks
use Rattle.archive_questions.specs.declared.holding.Held.{Held}
use Rattle.archive_questions.specs.declared.holding.HeldOne.{HeldOne}

-- a row where blocks are gone through, as a row of an answer
abbrev pub eval_row : TopRow → Row
eval_row row = record { doc = row.doc; score = row.score }

-- After the question, on any disk: `tells` says that the disk tells.
pub record AfterBest {T : Type 0} (tells : Type 0) (result : Result T AskError) (d e : DiskState) (old new : ArchiveState) : Type 0 where
  -- no image changes, no byte and no length
  pub same : OnlyReads d e
  -- nor does the archive, but for which pages it keeps
  pub but_cache : IsSameButCache old new
  -- and these go on being what reads give, whatever is answered
  pub cached : tells → CacheStands d old → CacheStands e new
  -- it failed only where a call of the disk failed
  pub failed : result ≡ Err asks.Failed → Rose d.faults e.faults

-- the first rows, with what was read and opened for them, are the history's
pub record IsBestOf (history : History) (t count : ℕ) (query : Query) (best : BestAnswer) : Type 0 where
  pub rows : List Row
  pub answer : IsAnswerAt history t query rows
  pub read_is : IsReadFor history t (t + 1) (words_of query) best.read
  pub found : AreFoundByBlocks history t count query (take count rows) best.opened best.blocks
  pub first : best.rows.items ≡ take count rows

-- this is damaged of what is read at a time for one of some words
pub record IsDamagedAmong (history : History) (pages : List ℕ) (t : ℕ) (words : List (List ℕ)) (damage : Damage) : Type 0 where
  pub word : List ℕ
  pub among : Contains words word
  pub plan : PlanEntry
  pub live : plan_of history word ≡ Some plan
  pub damaged : IsDamagedAt pages plan plan.layout t damage

-- What is held of the segment that has a time, if there is one: its blocks, with the segment and the horizon.
abbrev pub AreBlocksAt : ℕ → Option SegmentFrames → Option HeldBlocks → Type 0
AreBlocksAt horizon None blocks = blocks ≡ None
AreBlocksAt horizon (Some s) blocks = (b : HeldBlocks) × (blocks ≡ Some b) × (b.frames ≡ s.frames) × (b.page ≡ s.page) × (b.span ≡ s.span)
    × (b.horizon.seconds ≡ horizon)

-- what is held of a word is what there is of it, and so many postings are read for it
pub record IsHeldOne (history : History) (t : ℕ) (word : List ℕ) (held : HeldWord) (read : ℕ) : Type 0 where
  pub sheet : Sheet
  pub sheet_is : IsSheetOf history word (plan_of history word) t sheet
  pub held_as : IsHeldAs held sheet
  pub read_is : IsReadOf history word (plan_of history word) t (t + 1) read

-- this is damaged of what is read at a time for a word
pub record IsDamagedOne (history : History) (pages : List ℕ) (t : ℕ) (word : List ℕ) (damage : Damage) : Type 0 where
  pub plan : PlanEntry
  pub live : plan_of history word ≡ Some plan
  pub damaged : IsDamagedAt pages plan plan.layout t damage

-- What was had of a word at a time, as of some words below.
pub record HoldsOne (tells : Type 0) (t : ℕ) (word : List ℕ) (result : Result HeldOne FetchError) (d e : DiskState)
    (old new : ArchiveState) : Type 0 where
  pub held : tells → (h : History) → StandsFor old h → CacheStands d old → HoldsPlans h d.holds.pages
      → IfOk result (λ x. IsHeldOne h t word x.word x.read)
  pub bad : tells → (h : History) → StandsFor old h → CacheStands d old
      → IfOk result (λ x. (block : ℕ) (damage : Damage) → block < length (heads_in x.word.blocks) → IsBadBlock x.word.blocks block damage
      → IsDamagedOne h d.holds.pages t word damage)
  pub asked : tells → (h : History) → StandsFor old h → CacheStands d old
      → OnOk result (HasAsked (pieces_chosen d.holds.pages (plan_of h word) t (t + 1)) old.shelf.cache new.shelf.cache d e)
  pub damaged : tells → (h : History) → StandsFor old h → CacheStands d old → (damage : Damage) → result ≡ Err (fetches.Damaged damage)
      → IsDamagedOne h d.holds.pages t word damage

-- what is held of some words at a time: their sheets, and how many postings are read for them
pub record AreHeld (history : History) (t : ℕ) (words : List (List ℕ)) (held : List HeldWord) (read : ℕ) : Type 0 where
  pub sheets : List Sheet
  pub sheets_are : AreSheets history t words sheets
  pub held_as : AllZip IsHeldAs held sheets
  pub read_is : IsReadFor history t (t + 1) words read

-- What was had of some words at a time: it is so of each history that the archive stands for, where the pages kept are what reads give.
pub record HoldsFor (tells : Type 0) (t : ℕ) (words : List (List ℕ)) (result : Result Held FetchError) (d e : DiskState)
    (old new : ArchiveState) : Type 0 where
  -- where Pages hold what the live plans need, it is what there is of the words
  pub held : tells → (h : History) → StandsFor old h → CacheStands d old → HoldsPlans h d.holds.pages
      → IfOk result (λ x. AreHeld h t words x.words.items x.read)
  -- a block of it that is damaged is damaged of what is read
  pub bad : tells → (h : History) → StandsFor old h → CacheStands d old
      → IfOk result (λ x. (damage : Damage) → IsBadOf x.words.items damage → IsDamagedAmong h d.holds.pages t words damage)
  -- exactly the pages were asked for of the places that are chosen
  pub asked : tells → (h : History) → StandsFor old h → CacheStands d old
      → OnOk result (HasAsked (pieces_for h d.holds.pages t (t + 1) words) old.shelf.cache new.shelf.cache d e)
  -- and what is damaged is so of what is read for one of the words
  pub damaged : tells → (h : History) → StandsFor old h → CacheStands d old → (damage : Damage) → result ≡ Err (fetches.Damaged damage)
      → IsDamagedAmong h d.holds.pages t words damage

-- What was found for a query at a time by blocks.
pub record AsksBest (tells : Type 0) (query : Query) (count t : ℕ) (result : Result BestAnswer FetchError) (d e : DiskState)
    (old new : ArchiveState) : Type 0 where
  -- where the query asks for any of its words alone, and Pages hold what the live plans need
  pub made : tells → (h : History) → StandsFor old h → CacheStands d old → HoldsPlans h d.holds.pages
      → ((f : List ℕ → ℕ) → matches query f ≡ nat_lt 0 (score query f)) → IfOk result (IsBestOf h t count query)
  pub asked : tells → (h : History) → StandsFor old h → CacheStands d old
      → OnOk result (HasAsked (pieces_for h d.holds.pages t (t + 1) (words_of query)) old.shelf.cache new.shelf.cache d e)
  pub damaged : tells → (h : History) → StandsFor old h → CacheStands d old → (damage : Damage) → result ≡ Err (fetches.Damaged damage)
      → IsDamagedAmong h d.holds.pages t (words_of query) damage
