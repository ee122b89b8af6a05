-- One item carried out: an outcome of the abstract archive, and what it leaves.
use Rattle.std.specs.Prelude.{◌≡◌, ◌⊎◌, ◌<◌, ◌≤◌, true, List, [], ◌∷◌, ◌++◌, ℕ, length, Result, Ok, Err, IsTrue}
use Rattle.machine_model.specs.Areas.{Both}
use Rattle.machine_model.specs.States.{DiskState}
use Rattle.machine_model.specs.Pushes.{IsPrefix}
use Rattle.base_commands.specs.declared.command.Item.{Item}
use Rattle.model_archive.specs.Steps.{Reply}
use Rattle.model_archive.specs.Replies.{reply_text}
use Rattle.model_archive.specs.Runs.{Outcome, IsRunWith, shown_by}
use Rattle.model_archive.specs.Standing.{Carried, last_state}
use Rattle.archive_hand.specs.Changing.{KeepsBy, LeadsBy}
use Rattle.archive_hand.specs.States.{ArchiveState, AreInStepBy, Reaches}
use Rattle.archive_hand.specs.Stored.{Store, EachStandsBy, Spoils, StandsBy, StoreStep, StoreStint, TellsNoEntry, is_at_work}
use Rattle.archive_hand.specs.Takes.{Ending, Replied, Starved, Faulted, Spoiled, said}
use Rattle.archive_hand.specs.declared.job.Stint.{Stint}
use Rattle.machine_model.specs.declared.area.Failed.{Failed}
use Rattle.archive_questions.specs.Endings.{answered}
use Rattle.archive_questions.specs.declared.error.AskError.{AskError}
use Rattle.archive_questions.specs.declared.error.AskError.TheVariants as asks
use Rattle.pages_sublists.specs.declared.why.Damage.{Damage}
use Rattle.run_script.specs.declared.stop.Halt.{Halt}
use Rattle.run_script.specs.declared.stop.Halt.TheVariants as halts
use Rattle.run_script.specs.declared.stop.Stop.{Stop}
use Rattle.run_script.specs.declared.stop.Stop.TheVariants as stops

-- the archive is live, and its disk reaches as far
abbrev pub CanGoOn : ArchiveState → Both ℕ → Type 0
CanGoOn archive reach = IsTrue archive.live × Reaches reach archive

-- the part of a reply that is shown of those that are left isn't a whole one
abbrev pub IsShort : {S : Type 0} → List ℕ → List (Outcome Reply S) → Type 0
IsShort part [] = part ≡ []
IsShort part (outcome ∷ outcomes) = length part < length (reply_text outcome.reply)

-- What is written of a call's end: its reply is on the page, unless there is no memory for one that tells of no entry; or the run is halted.
abbrev pub Writes : Ending → Result (Unit {0}) Halt → List ℕ → Type 0
Writes (Replied reply) result page = ((result ≡ Ok tt) × (page ≡ reply_text reply)) ⊎ ((result ≡ Err halts.Memory) × TellsNoEntry reply)
Writes Starved result page = result ≡ Err halts.Memory
Writes Faulted result page = result ≡ Err halts.Disk
Writes (Spoiled damage) result page = result ≡ Err (halts.Damaged damage)

-- What is written of a stint's end: what it says is on the page, or the run is halted.
abbrev pub WritesStint : Result Stint Failed → Result (Unit {0}) Halt → List ℕ → Type 0
WritesStint (Ok stint) result page = (result ≡ Ok tt) × (page ≡ reply_text (said stint))
WritesStint (Err failed) result page = result ≡ Err halts.Disk

-- What is written of a query's end, whose reply this is of its answer: the run is halted by a fault or a damage just where the query was.
pub record WritesAnswer {T : Type 0} (reply : T → Reply) (answer : Result T AskError) (result : Result (Unit {0}) Halt)
    (page : List ℕ) : Type 0 where
  pub writes : Writes (answered reply answer) result page
  pub fault : result ≡ Err halts.Disk → answer ≡ Err asks.Failed
  pub damage : (d : Damage) → result ≡ Err (halts.Damaged d) → answer ≡ Err (asks.Damaged d)

-- An item, or a stint of the work on a plan, is a step: `Steps` says which replies and what is stored behind them may come of it, and `Harm` which
-- damage may be found in it.

-- The disk failed during a step: nothing came of it, or there is an outcome with a reply, and each image left since stands for what was before it or
-- after it.
abbrev pub FailsAt : Store → (Reply → Store → Type 0) → DiskState → DiskState → Type 0
FailsAt store Steps old new = KeepsBy store old new
    ⊎ ((reply : Reply) × (next : Store) × Steps reply next × (1 ≤ length (reply_text reply)) × LeadsBy store next old new)

-- A step that was made, or during which the run was halted. Where it was made it has an outcome, the archive stands for what came of it, and the page has
-- the reply. Where memory ran out or a sublist is damaged, nothing came of it.
abbrev pub AnswersTo : Store → (Reply → Store → Type 0) → (Damage → Type 0) → Result (Unit {0}) Halt → DiskState → DiskState → ArchiveState
    → List ℕ → Type 0
AnswersTo store Steps Harm (Ok done) old new archive_now page =
    (reply : Reply) × (next : Store) × Steps reply next × LeadsBy store next old new × AreInStepBy new archive_now next
    × (page ≡ reply_text reply)
AnswersTo store Steps Harm (Err halts.Disk) old new archive_now page = FailsAt store Steps old new
AnswersTo store Steps Harm (Err (halts.Damaged damage)) old new archive_now page = KeepsBy store old new × Harm damage
    × (new.holds.pages ≡ store.pages)
AnswersTo store Steps Harm (Err halts.Memory) old new archive_now page = KeepsBy store old new

-- a step was answered so
pub record IsAnswered (store : Store) (Steps : Reply → Store → Type 0) (Harm : Damage → Type 0) (result : Result (Unit {0}) Halt)
    (old new : DiskState) (archive_now : ArchiveState) (page : List ℕ) : Type 0 where
  pub came : AnswersTo store Steps Harm result old new archive_now page

-- A step has an outcome, and this was shown of its reply: each image left since, with what was shown of it then, stands for what was before it or
-- after it.
pub record IsShown (store : Store) (Steps : Reply → Store → Type 0) (shown before after : List ℕ) (old new : DiskState) : Type 0 where
  pub outcome : Outcome Reply Store
  pub step : Steps outcome.reply outcome.next
  pub carried : Carried reply_text StandsBy store (outcome ∷ []) before old new
  pub shown_is : after ≡ before ++ shown
  pub front : IsPrefix shown (reply_text outcome.reply)

-- the reply was cut short, or not shown at all
abbrev pub IsCut : Store → (Reply → Store → Type 0) → List ℕ → List ℕ → DiskState → DiskState → Type 0
IsCut store Steps before after old new = (shown : List ℕ) × (is : IsShown store Steps shown before after old new)
    × (length shown < length (reply_text is.outcome.reply))

-- nothing came of it
abbrev pub IsUndone : Store → List ℕ → List ℕ → DiskState → DiskState → Type 0
IsUndone store before after old new = KeepsBy store old new × (after ≡ before)

-- A step that was made and its reply shown, or during which the run was stopped.
abbrev pub CarriesOut : Store → (Reply → Store → Type 0) → (Damage → Type 0) → Result (Unit {0}) Stop → List ℕ → List ℕ → DiskState
    → DiskState → ArchiveState → Type 0
CarriesOut store Steps Harm (Ok done) before after old new archive_now =
    (shown : List ℕ) × (is : IsShown store Steps shown before after old new) × (shown ≡ reply_text is.outcome.reply)
    × AreInStepBy new archive_now is.outcome.next
CarriesOut store Steps Harm (Err stops.Sink) before after old new archive_now = (cut : IsCut store Steps before after old new)
    × EachStandsBy new cut.1.outcome.next
CarriesOut store Steps Harm (Err stops.Disk) before after old new archive_now = IsUndone store before after old new
    ⊎ IsCut store Steps before after old new
CarriesOut store Steps Harm (Err stops.Memory) before after old new archive_now = IsUndone store before after old new
CarriesOut store Steps Harm (Err (stops.Damaged damage)) before after old new archive_now = IsUndone store before after old new
    × Harm damage

-- The same by the disk alone, whatever the sink tells: what came of a step that was made, and what is damaged where the run was stopped at that.
abbrev pub Passes : Store → (Reply → Store → Type 0) → (Damage → Type 0) → Result (Unit {0}) Stop → DiskState → ArchiveState → Type 0
Passes store Steps Harm (Ok done) d archive_now = (reply : Reply) × (next : Store) × Steps reply next × AreInStepBy d archive_now next
Passes store Steps Harm (Err stops.Disk) d archive_now = Unit {0}
Passes store Steps Harm (Err stops.Sink) d archive_now = Unit {0}
Passes store Steps Harm (Err stops.Memory) d archive_now = Unit {0}
Passes store Steps Harm (Err (stops.Damaged damage)) d archive_now = Harm damage × (d.holds.pages ≡ store.pages)

-- no sublist is damaged in a stint
abbrev pub NeverSpoiled : Damage → Type 0
NeverSpoiled damage = ⊥

-- What came of an item until the run was stopped: nothing; it and the stint behind it, if work was under way; or it alone, while it was.
abbrev pub CameOf : Store → Item → Stop → List (Outcome Reply Store) → Type 0
CameOf store item stop outcomes = (outcomes ≡ [])
    ⊎ (IsRunWith StoreStep StoreStint is_at_work store (item ∷ []) outcomes
    ⊎ ((outcome : Outcome Reply Store) × (outcomes ≡ outcome ∷ []) × StoreStep store item outcome.reply outcome.next
    × (is_at_work store ≡ true) × ((stop ≡ stops.Disk) ⊎ (stop ≡ stops.Sink))))

-- The run was stopped at an item, or in the stint behind it. What was shown are the replies of the first outcomes, and a part of the next one, if there is
-- one. Where memory ran out or a sublist is damaged, nothing came of the item.
pub record IsStopped (store : Store) (item : Item) (stop : Stop) (before after : List ℕ) (old new : DiskState) : Type 0 where
  pub outcomes : List (Outcome Reply Store)
  pub came : CameOf store item stop outcomes
  pub whole : List (Outcome Reply Store)
  pub others : List (Outcome Reply Store)
  pub part : List ℕ
  pub outcomes_are : outcomes ≡ whole ++ others
  pub shown_is : after ≡ before ++ (shown_by reply_text whole ++ part)
  pub front : IsPrefix part (shown_by reply_text others)
  pub short : IsShort part others
  pub carried : Carried reply_text StandsBy store outcomes before old new
  pub undone : (stop ≡ stops.Memory) ⊎ ((damage : Damage) × (stop ≡ stops.Damaged damage)) → outcomes ≡ []
  pub steady : (stop ≡ stops.Disk → ⊥) → EachStandsBy new (last_state store outcomes)
  pub unfinished : (outcomes ≡ []) ⊎ ((length part < length (shown_by reply_text others)) ⊎ (is_at_work (last_state store outcomes) ≡ true))
  pub spoiled : (damage : Damage) → stop ≡ stops.Damaged damage → Spoils store item damage

-- An item that was carried out with the stint behind it, if work was under way, and all that they say shown; or the run was stopped.
abbrev pub CarriesOn : Store → Item → Result (Unit {0}) Stop → List ℕ → List ℕ → DiskState → DiskState → ArchiveState → Type 0
CarriesOn store item (Ok done) before after old new archive_now =
    (outcomes : List (Outcome Reply Store)) × IsRunWith StoreStep StoreStint is_at_work store (item ∷ []) outcomes
    × Carried reply_text StandsBy store outcomes before old new × (after ≡ before ++ shown_by reply_text outcomes)
    × AreInStepBy new archive_now (last_state store outcomes)
CarriesOn store item (Err stop) before after old new archive_now = IsStopped store item stop before after old new

-- the same by the disk alone
abbrev pub PassesOn : Store → Item → Result (Unit {0}) Stop → DiskState → ArchiveState → Type 0
PassesOn store item (Ok done) d archive_now = (outcomes : List (Outcome Reply Store))
    × IsRunWith StoreStep StoreStint is_at_work store (item ∷ []) outcomes × AreInStepBy d archive_now (last_state store outcomes)
PassesOn store item (Err (stops.Damaged damage)) d archive_now = Spoils store item damage × (d.holds.pages ≡ store.pages)
PassesOn store item (Err other) d archive_now = Unit {0}
