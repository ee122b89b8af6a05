-- An archive by what reads give: what an item of the input does to it, and what is replied. Nothing is asked of what lies in Pages: where it holds what
-- the history's plans need, this is the abstract archive's step over the history.
use Rattle.std.specs.Prelude.{◌≡◌, ℕ, ◌+◌, Bool, true, false, ◌^◌, List, [], ◌∷◌, ◌++◌, length, take, All, Option, is_some, Result, Ok, Err}
use Rattle.machine_model.specs.Areas.{Bytes}
use Rattle.machine_model.specs.Images.{MayLeave}
use Rattle.machine_model.specs.States.{DiskState}
use Rattle.base_types.specs.declared.extent.Extent.{Extent}
use Rattle.base_types.specs.declared.time.Span.{Span}
use Rattle.base_types.specs.declared.time.Time.{Time}
use Rattle.base_types.specs.declared.tolerance.Tolerance.{Tolerance}
use Rattle.journal_gates.specs.Spelled.{Spells}
use Rattle.pages_area.specs.Caches.{Kept, after_asking_all, missed_by_all}
use Rattle.pages_area.specs.Live.{IsInside}
use Rattle.pages_area.specs.Ranges.{bytes_in}
use Rattle.pages_area.specs.Taken.{AreApart}
use Rattle.journal_entries.specs.declared.entry.Entry.TheVariants as entries
use Rattle.journal_entries.specs.declared.plan.PlanEntry.{PlanEntry}
use Rattle.base_commands.specs.declared.count.BestCount.{BestCount}
use Rattle.base_commands.specs.declared.count.TopCount.{TopCount}
use Rattle.base_commands.specs.declared.command.Command.{Command}
use Rattle.base_commands.specs.declared.command.Command.TheVariants as commands
use Rattle.base_commands.specs.declared.command.Item.{Item}
use Rattle.base_commands.specs.declared.command.Item.TheVariants as items
use Rattle.query_lang.specs.Chains.{asks_for_any}
use Rattle.query_lang.specs.Grammar.{Query, IsRead}
use Rattle.query_lang.specs.Meaning.{words_of}
use Rattle.query_lang.specs.Tokens.{term_of}
use Rattle.query_eval.specs.declared.answer.Row.{Row}
use Rattle.query_eval.specs.declared.spans.SpanRow.{SpanRow}
use Rattle.pages_sublists.specs.declared.why.Damage.{Damage}
use Rattle.model_archive.specs.declared.refusal.Refusal.TheVariants as refusals
use Rattle.model_archive.specs.declared.verdict.Verdict.{Verdict}
use Rattle.model_archive.specs.Bests.{SpoilsBest}
use Rattle.model_archive.specs.Chosen.{IsMadeAt, IsMadeOver, SpoilsAnswer, pieces_for}
use Rattle.model_archive.specs.Histories.{History, text_at}
use Rattle.model_archive.specs.Holding.{HoldsPlan, HoldsPlans}
use Rattle.model_archive.specs.Plans.{live_extents}
use Rattle.model_archive.specs.Rough.{IsMadeRough}
use Rattle.model_archive.specs.Sharing.{Notes}
use Rattle.model_archive.specs.Stands.{bodies_of}
use Rattle.model_archive.specs.Steps.{Reply, Accepted, Found, FoundBest, Planned, Finished, Neared, Refused, Spanned, Verified, Version, Begins, BestsBy, Approximates, CarriesOut, Certifies, IsNoDisjunction, IsReplied, IsRepliedBy, Proposes, Shares, Works}
use Rattle.model_archive.specs.Worlds.{Job, World}
use Rattle.plans_share.specs.declared.asked.Asking.{Asking}
use Rattle.archive_check.specs.Checked.{IsChecked}

-- an archive by what reads give: its history, what was asked, the bytes of Pages, the pieces of pages that it keeps, how many bytes of Pages were read,
-- and a plan that is being written, if one is
pub record Store : Type 0 where
  pub history : History
  pub asked : List Asking
  pub pages : List ℕ
  pub kept : List Kept
  pub read : ℕ
  pub job : Option Job

-- the state of the abstract archive that it is
abbrev pub world_by : Store → World
world_by store = record { history = store.history; asked = store.asked; job = store.job }

-- an extent lies inside these pages, and has the bytes there that it has in those
abbrev pub HasSame : List ℕ → List ℕ → Extent → Type 0
HasSame was pages e = IsInside (length pages) e × (bytes_in e pages ≡ bytes_in e was)

-- An image stands for it: its journal spells the history's entries, and each live place has the bytes that reads give.
pub record StandsBy (store : Store) (image : Bytes) : Type 0 where
  pub spelled : Spells image.journal (bodies_of store.history)
  pub same : All (HasSame store.pages image.pages) (live_extents store.history)

-- each image that a stop may leave now stands for it
abbrev pub EachStandsBy : DiskState → Store → Type 0
EachStandsBy d store = (image : Bytes) → MayLeave d.now image → StandsBy store image

-- What a change or a plan leaves in Pages: each live place has the bytes that it had, no two places share a page that are live then, and those of a
-- plan that was stored hold its sublists. Nothing is asked by it.
pub record Stocks (old new : Store) : Type 0 where
  pub same : All (HasSame old.pages new.pages) (live_extents old.history)
  pub apart : AreApart (live_extents new.history)
  pub held : (plan : PlanEntry) → new.history ≡ old.history ++ entries.Planned plan ∷ [] → HoldsPlan new.history new.pages plan
  pub asked : new.asked ≡ old.asked

-- a change or a plan is carried out on the history as the machine says
abbrev pub Changes : Store → Command → Reply → Store → Type 0
Changes old command reply new = CarriesOut old.asked old.job old.history command reply new.history × (new.job ≡ old.job) × Stocks old new

-- what is found by a query at a time, by the lists that are chosen
abbrev pub MakesAt : Store → Time → Query → Reply → Type 0
MakesAt store at query reply = (rows : List Row) × (read : ℕ) × IsMadeAt store.history store.pages at.seconds query rows read
    × (reply ≡ Found rows read)

-- the first rows of these
abbrev pub MakesTop : Store → TopCount → Time → Query → Reply → Type 0
MakesTop store count at query reply = (rows : List Row) × (read : ℕ) × IsMadeAt store.history store.pages at.seconds query rows read
    × (reply ≡ Found (take count.number rows) read)

-- what is found approximately by a query at a time, by the lists that are chosen over all times
abbrev pub MakesRough : Store → Tolerance → Time → Query → Reply → Type 0
MakesRough store tolerance at query reply = (rows : List Row) × (read : ℕ)
    × IsMadeRough store.history store.pages tolerance at.seconds query rows read × (reply ≡ Neared rows read)

-- First rows by blocks are told, and how many blocks were opened: the abstract archive's, where Pages hold what the history's plans need. On other
-- bytes headers may lie, so nothing is said of which rows they are.
abbrev pub MakesBest : Store → BestCount → Time → Query → Reply → Type 0
MakesBest store count at query reply =
    ((rows : List Row) × (read opened blocks : ℕ) × (reply ≡ FoundBest rows read opened blocks))
    × (HoldsPlans store.history store.pages → BestsBy store.history count at query reply)

-- what is found over a window, by the lists that are chosen
abbrev pub MakesOver : Store → Span → Query → Reply → Type 0
MakesOver store span query reply = (rows : List SpanRow) × (read : ℕ)
    × IsMadeOver store.history store.pages span.from span.to query rows read × (reply ≡ Spanned rows read)

-- what is told of an archive that is checked: the verdict by its texts and the bytes of its places
abbrev pub TellsVerdict : Store → Reply → Type 0
TellsVerdict store reply = (journal : List ℕ) × (verdict : Verdict) × Spells journal (bodies_of store.history)
    × IsChecked store.history (record { journal = journal; pages = store.pages }) verdict × (reply ≡ Verified verdict)

-- the reply tells of no new entry
abbrev pub TellsNoEntry : Reply → Type 0
TellsNoEntry (Accepted length) = ⊥
TellsNoEntry (Planned summary) = ⊥
TellsNoEntry (Finished summary) = ⊥
TellsNoEntry other = Unit {0}

-- pages are asked for that give these pieces: those that are missed are read, and kept
abbrev pub asking : Store → List Kept → Store
asking store pieces = record store { kept = after_asking_all pieces store.kept; read = store.read + missed_by_all pieces store.kept }

-- for a query over [a, b) exactly the pages are asked for of the lists that are chosen, in their order, and for a text that is none nothing
abbrev pub AsksOf : Store → ℕ → ℕ → Result Query ℕ → Store → Type 0
AsksOf old a b (Ok query) new = new ≡ asking old (pieces_for old.history old.pages a b (words_of query))
AsksOf old a b (Err place) new = new ≡ old

-- what a text is answered, as it is read, and what is asked for
abbrev pub Answers : (Query → Reply → Type 0) → Store → ℕ → ℕ → List ℕ → Reply → Store → Type 0
Answers Makes old a b text reply new = (query : Result Query ℕ) × IsRead term_of text query × IsRepliedBy Makes query reply
    × AsksOf old a b query new

-- The first rows by blocks, by a text; the first argument says that it asks for any of some words. The same pages are asked for as for all rows; and
-- none for a text that doesn't ask so.
abbrev pub AnswersBest : Bool → Store → BestCount → Time → List ℕ → Reply → Store → Type 0
AnswersBest true old count at text reply new = Answers (MakesBest old count at) old at.seconds (at.seconds + 1) text reply new
AnswersBest false old count at text reply new = (new ≡ old) × IsReplied IsNoDisjunction text reply

-- the same of a question that is noted: what else it changes is as of any question
abbrev pub AnswersAndNotes : (Query → Reply → Type 0) → Store → Time → List ℕ → Reply → Store → Type 0
AnswersAndNotes Makes old at text reply new = Answers Makes old at.seconds (at.seconds + 1) text reply (record new { asked = old.asked })
    × Notes old.asked (commands.Find at text) new.asked

-- nothing changes but how many bytes were read
abbrev pub ReadsOn : Store → Store → Type 0
ReadsOn old new = new ≡ record old { read = new.read }

-- The step by what reads give: a change or a plan is the history's; a question changes nothing, and its answer is made from the lists that are chosen,
-- its verdict from the bytes that are there.
abbrev pub StoreStep : Store → Item → Reply → Store → Type 0
StoreStep old (items.Command (commands.Arrive doc at text)) reply new = Changes old (commands.Arrive doc at text) reply new
StoreStep old (items.Command (commands.Delete doc at)) reply new = Changes old (commands.Delete doc at) reply new
StoreStep old (items.Command commands.Format) reply new = Changes old commands.Format reply new
StoreStep old (items.Command (commands.Batch batch)) reply new = Changes old (commands.Batch batch) reply new
StoreStep old (items.Command (commands.Plan word kind fraction)) reply new = Changes old (commands.Plan word kind fraction) reply new
StoreStep old (items.Command (commands.Find at expr)) reply new = AnswersAndNotes (MakesAt old at) old at expr reply new
StoreStep old (items.Command (commands.Top count at expr)) reply new = Answers (MakesTop old count at) old at.seconds
    (at.seconds + 1) expr reply new
StoreStep old (items.Command (commands.Rough tolerance at expr)) reply new =
    Answers (MakesRough old tolerance at) old 0 (2 ^ 40) expr reply new
StoreStep old (items.Command (commands.Approx word tolerance)) reply new = (new ≡ old) × Approximates old.history word tolerance reply
StoreStep old (items.Command (commands.Best count at expr)) reply new = AnswersBest (asks_for_any expr) old count at expr reply new
StoreStep old (items.Command (commands.Between span expr)) reply new = Answers (MakesOver old span) old span.from span.to expr reply new
StoreStep old (items.Command (commands.Show doc at)) reply new = ReadsOn old new × (reply ≡ Version (text_at old.history doc at.seconds))
StoreStep old (items.Command (commands.Propose word fraction)) reply new = (new ≡ old) × Proposes old.history word fraction reply
StoreStep old (items.Command (commands.Certificate word)) reply new = (new ≡ old) × Certifies old.history word reply
StoreStep old (items.Command commands.Verify) reply new = ReadsOn old new × TellsVerdict old reply
StoreStep old (items.Command (commands.Share factor words)) reply new = (new ≡ old)
    × Shares old.asked old.history words factor.fraction reply
StoreStep old (items.Command (commands.Begin word fraction)) reply new =
    Begins (world_by old) word fraction reply (world_by new) × (new ≡ record old { job = new.job })
StoreStep old other reply new = (new ≡ old) × (reply ≡ Refused refusals.Line)

-- A stint by what reads give: it is the abstract archive's, and leaves each live place as it was.
abbrev pub StoreStint : Store → Reply → Store → Type 0
StoreStint old reply new = Works (world_by old) reply (world_by new) × Stocks old new

-- a plan is being written
abbrev pub is_at_work : Store → Bool
is_at_work store = is_some store.job

-- the history and the bytes of Pages are the same
abbrev pub IsSameStore : Store → Store → Type 0
IsSameStore old new = (new.history ≡ old.history) × (new.pages ≡ old.pages)

-- The item asks what is found, at a time, which is a window up to the next one, or over a window, or approximately, for which all times
-- are read; and this is so of the window's bounds and the text.
abbrev pub AsksOver : (ℕ → ℕ → List ℕ → Type 0) → Item → Type 0
AsksOver P (items.Command (commands.Find at expr)) = P at.seconds (at.seconds + 1) expr
AsksOver P (items.Command (commands.Top count at expr)) = P at.seconds (at.seconds + 1) expr
AsksOver P (items.Command (commands.Rough tolerance at expr)) = P 0 (2 ^ 40) expr
AsksOver P (items.Command (commands.Between span expr)) = P span.from span.to expr
AsksOver P other = ⊥

-- The item asks what is found, and this is the first that is damaged of what is read for it; or it asks for the first rows by blocks, and this is
-- damaged of what is read for them.
abbrev pub Spoils : Store → Item → Damage → Type 0
Spoils store (items.Command (commands.Best count at expr)) damage = SpoilsBest store.history store.pages at.seconds expr damage
Spoils store item damage = AsksOver (λ a b text. SpoilsAnswer store.history store.pages a b text damage) item
