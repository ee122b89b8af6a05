-- The question for first rows by blocks is a step of the abstract archive by what reads give.
use Rattle.std.proofs.Common.{◌≡◌, ℕ, ◌+◌, Bool, true, false, List, Result, Ok, Err, refl, ap, sym, subst}
use Rattle.machine_model.specs.States.{DiskState}
use Rattle.base_types.specs.declared.time.Time.{Time}
use Rattle.base_commands.specs.declared.command.Command.TheVariants as commands
use Rattle.base_commands.specs.declared.command.Item.{Item}
use Rattle.base_commands.specs.declared.command.Item.TheVariants as items
use Rattle.base_commands.specs.declared.count.BestCount.{BestCount}
use Rattle.pages_sublists.specs.declared.why.FetchError.{FetchError}
use Rattle.pages_sublists.specs.declared.why.FetchError.TheVariants as fetches
use Rattle.query_lang.specs.declared.error.QueryError.{QueryError}
use Rattle.query_lang.specs.declared.error.QueryError.TheVariants as queries
use Rattle.query_lang.specs.Chains.{asks_for_any}
use Rattle.query_lang.specs.Grammar.{Query, IsRead}
use Rattle.query_lang.specs.Meaning.{words_of}
use Rattle.query_lang.specs.Tokens.{term_of}
use Rattle.query_lang.proofs.ChainLaws.{any_scores}
use Rattle.query_eval.specs.declared.answer.Row.{Row}
use Rattle.model_archive.specs.Bests.{SpoilsBest}
use Rattle.model_archive.specs.Chosen.{pieces_for}
use Rattle.model_archive.specs.Holding.{HoldsPlans}
use Rattle.model_archive.specs.Steps.{FoundBest, Refused}
use Rattle.model_archive.specs.declared.refusal.Refusal.TheVariants as refusals
use Rattle.archive_hand.specs.States.{ArchiveState, AreInStepBy, with_reads}
use Rattle.archive_hand.specs.Stored.{AnswersBest, Spoils, Store, StoreStep, asking}
use Rattle.archive_hand.specs.Takes.{TakesBy}
use Rattle.archive_questions.specs.After.{AfterFetching}
use Rattle.archive_questions.specs.Bests.{AsksBest, IsBestOf}
use Rattle.archive_questions.specs.Causes.{ask_error_of_query, asked_of}
use Rattle.archive_questions.specs.Endings.{best_found}
use Rattle.archive_questions.specs.declared.besting.BestAnswer.{BestAnswer}
use Rattle.archive_questions.specs.declared.error.AskError.{AskError}
use Rattle.archive_questions.specs.declared.error.AskError.TheVariants as asks
use Rattle.archive_questions.proofs.AskedLemmas.{asked_of_query}
use Rattle.archive_questions.proofs.TakeLemmas.{IsAnsweredBy, no_reads, question_by}

-- the item
abbrev item_of : BestCount → Time → List ℕ → Item
item_of count at text = items.Command (commands.Best count at text)

-- ---- the steps

-- a text that is no query
no-query-step : (b : Bool) (s next : Store) (count : BestCount) (at : Time) (text : List ℕ) (place : ℕ) → next ≡ s → IsRead term_of text (Err place) → AnswersBest b s count at text (Refused (refusals.BadQuery place)) next
no-query-step true s next count at text place same read = (Err place, read, refl, same)
no-query-step false s next count at text place same read = (same, (Err place, read, refl))

-- one that asks for something else
no-chain-step : (b : Bool) (s next : Store) (count : BestCount) (at : Time) (text : List ℕ) (query : Query) → b ≡ false → next ≡ s → IsRead term_of text (Ok query) → AnswersBest b s count at text (Refused refusals.NotDisjunction) next
no-chain-step true s next count at text query quiet same read = absurd cc
no-chain-step false s next count at text query quiet same read = (same, (Ok query, read, refl))

-- first rows
found-step : (b : Bool) (s next : Store) (count : BestCount) (at : Time) (text : List ℕ) (query : Query) (best : BestAnswer) → b ≡ true → IsRead term_of text (Ok query)
    → (HoldsPlans s.history s.pages → IsBestOf s.history at.seconds count.number query best) → next ≡ asking s (pieces_for s.history s.pages at.seconds (at.seconds + 1) (words_of query))
    → AnswersBest b s count at text (FoundBest best.rows.items best.read best.opened best.blocks) next
found-step false s next count at text query best any read made asks = absurd cc
found-step true s next count at text query best any read made asks = (
  Ok query,
  read,
  (
    (best.rows.items, best.read, best.opened, best.blocks, refl),
    λ holds.
        (let is = made holds in
        (is.rows, best.read, best.opened, best.blocks, is.answer, is.read_is, is.found, ap (λ (rows : List Row). FoundBest rows best.read best.opened best.blocks) is.first)),
  ),
  asks,
)

-- ---- and that it is a step

module _ (s : Store) (count : BestCount) (at : Time) (text : List ℕ) (d : DiskState) (x : ArchiveState) (in_step : AreInStepBy d x s) where
  -- of a text that is no query
  pub no-query-by : (place : ℕ) → IsRead term_of text (Err place) → TakesBy s (item_of count at text) (best_found (Err (asks.Refused (refusals.BadQuery place)))) d d x
  no-query-by place read =
      question_by (λ reply. StoreStep s (item_of count at text) reply (with_reads s x d)) s (item_of count at text) (best_found (Err (asks.Refused (refusals.BadQuery place)))) d d x x (λ reply is. is) refl refl in_step.cached in_step
      (no-query-step (asks_for_any text) s (with_reads s x d) count at text place (no_reads s d x in_step) read)

  -- of one that asks for something else
  pub no-chain-by : (query : Query) → asks_for_any text ≡ false → IsRead term_of text (Ok query) → TakesBy s (item_of count at text) (best_found (Err (asks.Refused refusals.NotDisjunction))) d d x
  no-chain-by query quiet read =
      question_by (λ reply. StoreStep s (item_of count at text) reply (with_reads s x d)) s (item_of count at text) (best_found (Err (asks.Refused refusals.NotDisjunction))) d d x x (λ reply is. is) refl refl in_step.cached in_step
      (no-chain-step (asks_for_any text) s (with_reads s x d) count at text query quiet (no_reads s d x in_step) read)

  -- for want of memory
  pub starved-by : TakesBy s (item_of count at text) (best_found (Err asks.Memory)) d d x
  starved-by = question_by (λ reply. StoreStep s (item_of count at text) reply (with_reads s x d)) s (item_of count at text) (best_found (Err asks.Memory)) d d x x (λ reply is. is) refl refl in_step.cached in_step tt

  -- of a text that is told to be none
  pub query-error-by : (why : QueryError) (error : AskError) → error ≡ ask_error_of_query why → ((place : ℕ) → why ≡ queries.BadQuery place → IsRead term_of text (Err place)) → TakesBy s (item_of count at text) (best_found (Err error)) d d x
  query-error-by (queries.BadQuery place) error is bad =
      subst (λ (q : AskError). TakesBy s (item_of count at text) (best_found (Err q)) d d x) (sym is) (no-query-by place (bad place refl))
  query-error-by queries.Memory error is bad = subst (λ (q : AskError). TakesBy s (item_of count at text) (best_found (Err q)) d d x) (sym is) starved-by

  -- of what was found
  pub found-by : {tells : Type 0} (query : Query) (r : Result BestAnswer AskError) (fetched : Result BestAnswer FetchError) (e : DiskState) (y : ArchiveState) → tells → asks_for_any text ≡ true → IsRead term_of text (Ok query)
      → r ≡ asked_of fetched → AfterFetching tells fetched d e x y → AsksBest tells query count.number at.seconds fetched d e x y → TakesBy s (item_of count at text) (best_found r) d e y
  found-by {tells} query r fetched e y told any read is after asked =
      subst (λ (q : Result BestAnswer AskError). TakesBy s (item_of count at text) (best_found q) d e y) (sym is)
      (question_by (λ reply. StoreStep s (item_of count at text) reply (with_reads s y e)) s (item_of count at text) (best_found (asked_of fetched)) d e x y (λ reply is. is) after.same after.but_cache (after.cached told in_step.cached) in_step
      (go fetched asked))
    where
      go : (f : Result BestAnswer FetchError) → AsksBest tells query count.number at.seconds f d e x y
          → IsAnsweredBy (λ reply. StoreStep s (item_of count at text) reply (with_reads s y e)) (Spoils s (item_of count at text)) (best_found (asked_of f))
      go (Ok best) asked =
          let pieces = λ (pages : List ℕ). pieces_for s.history pages at.seconds (at.seconds + 1) (words_of query) in
          found-step (asks_for_any text) s (with_reads s y e) count at text query best any read
          (λ holds. asked.made told s.history in_step.stands in_step.cached (subst (λ (pages : List ℕ). HoldsPlans s.history pages) (sym in_step.pages_are) holds) (any_scores text query any read))
          (subst (λ (pages : List ℕ). with_reads s y e ≡ asking s (pieces pages)) in_step.pages_are (asked_of_query s d e x y (pieces d.holds.pages) in_step (asked.asked told s.history in_step.stands in_step.cached)))
      go (Err fetches.Failed) asked = tt
      go (Err fetches.Memory) asked = tt
      go (Err (fetches.Damaged damage)) asked =
          let bad = asked.damaged told s.history in_step.stands in_step.cached damage refl in
          subst (λ (pages : List ℕ). SpoilsBest s.history pages at.seconds text damage) in_step.pages_are
          (record { query = query; is_read = read; any = any; word = bad.word; among = bad.among; plan = bad.plan; live = bad.live; damaged = bad.damaged })
